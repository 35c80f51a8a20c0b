use Rattle.const_pool.proofs.Indexes.{names_so_far, members_so_far, all_closed, whole_indexed}
use Rattle.std.proofs.Common.{refl}
use Rattle.const_pool.proofs.index.Index.note.Goals as goal

pub note_names-requires-clause-known : goal.note_names-requires-clause-known
note_names-requires-clause-known c = names_so_far c.args.self.now c.args.entries.now c.requires.indexed

pub note_members-requires-clause-known : goal.note_members-requires-clause-known
note_members-requires-clause-known c = members_so_far c.args.self.now c.args.entries.now c.requires.indexed

pub returns : goal.returns
returns c = whole_indexed _ c.args.entries.now refl (record {
  names = record { texts = c.in_ok-note_texts.ensures; names = c.in_ok-note_names.ensures };
  members = c.in_ok-note_members.ensures;
  closed = all_closed c.args.self.now c.args.entries.now c.requires.indexed c.requires.closed;
})
