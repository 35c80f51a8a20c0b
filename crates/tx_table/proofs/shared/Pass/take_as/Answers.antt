use Rattle.std.proofs.Common.{rules, arith, ◌/◌, ◌*◌, ◌+◌, ◌≡◌, mod-lt, ap}
use Rattle.tx_table.proofs.Allowed.{takes_for}
use Rattle.tx_table.proofs.shared.Pass.take_as.Goals as goal

pub compare_exchange-found-requires : goal.compare_exchange-found-requires
compare_exchange-found-requires g c = let even : c.args.word ≡ 2 * (c.args.word / 2) = omega (arith, c.requires.ready.2) in (
  search rules,
  search rules,
  takes_for _ _ _ _ c.args.word (c.args.word / 2) c.args.a g.G.Naming.address _ c.requires.told (mod-lt c.args.a (omega arith)) even c.requires.ready.0
      (ap (λ k. 2 * k + 1) c.args.self.now.tied.1) (λ b x e same. let p = c.requires.fits b x e same in omega (arith, p, even)) c.args.self.now.tied.7,
)
