use Rattle.std.proofs.Common.{◌≡◌, ◌∙◌, ap, sym}
use Rattle.std.proofs.lemmas.Bool.{both_ways}
use Rattle.hm_scope_typed_names.proofs.OneEntry.{one_entry}
use Rattle.hm_scope_typed_names.proofs.schemes.entry_of.Goals as goal

pub returns-then-not-is_same-clause-none : goal.returns-then-not-is_same-clause-none
returns-then-not-is_same-clause-none g c = λ e has named same.
    let one : e ≡ c.in-Some.entry.now = one_entry g.E.Named.name_of c.args.entries.now e c.in-Some.entry.now c.requires has c.in-Some.ensures.0 (named ∙ sym (c.in-Some.ensures.1 ∙ c.text.ensures)) in
    both_ways c.is_same.result c.if-not-is_same.true (c.is_same.ensures.1 (c.of.ensures ∙ c.entity.ensures ∙ ap g.E.Named.entity_of (sym one) ∙ same ∙ sym c.entity-2.ensures))
