-- The names in the code of a taken method lead where the law of duplicates asks.
use Rattle.std.proofs.Common.{◌≡◌, List, map}
use Rattle.jmodel.specs.format.ClassFile.{Member, ClassFile}
use Rattle.objects.specs.linking.Classes.{Declared, declared_in, full_name}
use Rattle.objects.specs.semantics.Program.{Method, Program}
use Rattle.objects.specs.linking.Decoding.{Symbols}
use Rattle.objects.specs.linking.Linking.{taken_methods, original_symbols}
use Rattle.objects.specs.laws.LinkingLaw.{AreRead}
use Rattle.objects.specs.rewriting.Rewriting.{helper_methods}
use Rattle.objects.proofs.Items.{IsAt}
use Rattle.objects.proofs.Links.{IsLinkedTo}
use Rattle.dup_methods.specs.DuplicateLaw.{Ties, IsCalledBy, IsAccessedBy}
use Rattle.rewritten_names.specs.LeadsLaw.{Leads, LeadsSpecial}
use Rattle.rewritten_ties.proofs.Added.{getter_called, setter_called, load_called, store_called}
use Rattle.rewritten_ties.proofs.Used.{no_constant, static_copied, special_op_copied, virtual_copied, interface_copied}

module _ (cs : List ClassFile) (P : Program) (read : AreRead cs) (l : IsLinkedTo cs P) (h : ClassFile) (names : map full_name (declared_in h h.methods) ≡ map (λ (k : Method). k.name) helper_methods)
    (c : ClassFile) (m : Member) (taken : IsAt (taken_methods cs) (record { class = c; member = m })) (s : Symbols) (types : s.types ≡ (original_symbols cs c).types) (texts : s.texts ≡ (original_symbols cs c).texts)
    (L : Leads cs P h (original_symbols cs c) s) (S : LeadsSpecial cs P (original_symbols cs c) s) where
  abbrev d : Declared
  d = record { class = c; member = m }

  -- all that the law asks
  pub ties : Ties P (IsCalledBy c m) (IsAccessedBy c m) (original_symbols cs c) s
  ties = record {
    types = types;
    texts = texts;
    constants = λ n v a e. absurd (no_constant cs P read l d taken a.coded a.decodes a.accessed.instr (a.accessed.index, a.accessed.inside) n a.accessed.names v e);
    getters = getter_called cs P h (original_symbols cs c) s L;
    setters = setter_called cs P h (original_symbols cs c) s L;
    loads = load_called cs P h (original_symbols cs c) s L names;
    stores = store_called cs P h (original_symbols cs c) s L names;
    statics = λ n o a e. static_copied cs P read l d taken a.coded a.decodes a.called.instr (a.called.index, a.called.inside) n a.called.names h s L S o e;
    specials = λ n o a e. special_op_copied cs P read l d taken a.coded a.decodes a.called.instr (a.called.index, a.called.inside) n a.called.names h s L S o e;
    virtuals = λ n o w a e. virtual_copied cs P read l d taken a.coded a.decodes a.called.instr (a.called.index, a.called.inside) n a.called.names h s L S o w e;
    interfaces = λ n o w a e. interface_copied cs P read l d taken a.coded a.decodes a.called.instr (a.called.index, a.called.inside) n a.called.names h s L S o w e;
  }
