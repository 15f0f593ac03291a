use Rattle.std.proofs.Common.{refl, ap, Some}
use Rattle.hm_names.specs.Found.{resolver_of}
use Rattle.hm_names.specs.Resolved.{type_with}
use Rattle.hm_scope_tables.specs.KnownTables.{lookups_of}
use Rattle.hm_names.proofs.ClosedTypes.{makes_synonym, synonym_made, not_sound}
use Rattle.hm_scope.proofs.finished_synonyms.finished_over.Goals as goal

pub returns-then-not-branch : goal.returns-then-not-branch
returns-then-not-branch c = λ ps named sound. not_sound ps c.args.variables.now c.args.ty.now c.in_ok-is_closed.field-0 c.in_ok-is_closed.ensures c.if-not-branch.true (λ _. named) sound

pub new-requires : goal.new-requires
new-requires c =
    let r = resolver_of (lookups_of c.args.scope.now c.args.tables.now) in
    makes_synonym c.args.variables.now c.len.result r c.args.ty.now (type_with r c.args.ty.now) _ c.len.ensures refl c.in_ok-body.ensures (c.in_ok-is_closed.ensures.0 c.if-not-branch.false)

pub returns : goal.returns
returns c = λ ps named sound.
    let r = resolver_of (lookups_of c.args.scope.now c.args.tables.now) in
    ap Some (synonym_made ps c.args.variables.now c.len.result r c.args.ty.now (type_with r c.args.ty.now) c.new.result _ c.len.ensures refl c.in_ok-body.ensures c.new.ensures (λ _. named) sound)
