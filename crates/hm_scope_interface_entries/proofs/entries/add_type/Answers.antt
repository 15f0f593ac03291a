use Rattle.std.proofs.Common.{◌∙◌, ◌++◌, ◌∷◌, [], sym, ap, Some}
use Rattle.hm_types.specs.declared.entries.TypeEntry.{TypeEntry}
use Rattle.hm_types.specs.Synonyms.{TypeSynonym}
use Rattle.hm_names.specs.Cores.{synonym_in}
use Rattle.hm_scope_interface_entries.specs.KnownExports.{meaning_of}
use Rattle.hm_names.specs.Types.{synonym_of}
use Rattle.hm_scope_interface_entries.specs.declared.known_exports.KnownType.{KnownType}
use Rattle.hm_scope_interface_entries.proofs.EntriesMade.{types_skipped, synonyms_skipped, type_added, no_synonym_added, synonym_added, no_type_added}
use Rattle.hm_scope_interface_entries.proofs.entries.add_type.Goals as goal

pub returns-in_default-clause-types : goal.returns-in_default-clause-types
returns-in_default-clause-types c = λ k xs known up are. types_skipped c.args.known.now c.key_of.result c.args.exported.now c.key_of.ensures k xs known up c.args.types.now.items c.in_default.ensures.value are

pub returns-in_default-clause-synonyms : goal.returns-in_default-clause-synonyms
returns-in_default-clause-synonyms c = λ k xs known up are. synonyms_skipped c.args.known.now c.key_of.result c.args.exported.now c.key_of.ensures k xs known up c.args.synonyms.now.items c.in_default.ensures.value are

pub declared_synonym-requires : goal.declared_synonym-requires
declared_synonym-requires c = c.requires c.key_of.result c.in-Declared.params c.in-Declared.ty (sym (ap Some (sym c.in-Declared.is) ∙ c.in-Some.ensures.value))

pub returns-in_ok-push-in-Algebraic-clause-types : goal.returns-in_ok-push-in-Algebraic-clause-types
returns-in_ok-push-in-Algebraic-clause-types c = λ k xs known up are.
    type_added c.args.known.now c.key_of.result c.args.exported.now c.key_of.ensures k xs known up c.in-Some.known.now c.in-Some.ensures.value c.in-Algebraic.arity c.in-Algebraic.is c.args.types.now.items c.push.new.self.items
    (c.in_ok-push-in-Algebraic.ensures.items ∙ ap (λ (r : TypeEntry). c.args.types.now.items ++ r ∷ []) (λ i. record { name = c.in_ok-copy-in-Algebraic.ensures i; entity = c.in_ok-copy-in-Algebraic-2.ensures i; arity = c.in-Algebraic.arity })) are

pub returns-in_ok-push-in-Algebraic-clause-synonyms : goal.returns-in_ok-push-in-Algebraic-clause-synonyms
returns-in_ok-push-in-Algebraic-clause-synonyms c = λ k xs known up are. no_synonym_added c.args.known.now c.key_of.result c.args.exported.now c.key_of.ensures k xs known up c.in-Some.known.now c.in-Some.ensures.value c.in-Algebraic.arity c.in-Algebraic.is c.args.synonyms.now.items are

pub returns-in_ok-add_synonym-in-Declared-clause-types : goal.returns-in_ok-add_synonym-in-Declared-clause-types
returns-in_ok-add_synonym-in-Declared-clause-types c = λ k xs known up are. no_type_added c.args.known.now c.key_of.result c.args.exported.now c.key_of.ensures k xs known up c.in-Some.known.now c.in-Some.ensures.value
    (synonym_of c.in-Declared.params.now c.in-Declared.ty.now) (ap (λ (v : KnownType). synonym_in (meaning_of v)) c.in-Declared.is) c.args.types.now.items are

pub returns-in_ok-add_synonym-in-Declared-clause-synonyms : goal.returns-in_ok-add_synonym-in-Declared-clause-synonyms
returns-in_ok-add_synonym-in-Declared-clause-synonyms c = λ k xs known up are. synonym_added c.args.known.now c.key_of.result c.args.exported.now c.key_of.ensures k xs known up c.in-Some.known.now c.in-Some.ensures.value
    (synonym_of c.in-Declared.params.now c.in-Declared.ty.now) (ap (λ (v : KnownType). synonym_in (meaning_of v)) c.in-Declared.is) c.args.synonyms.now.items c.add_synonym.new.synonyms.items
    (c.in_ok-add_synonym-in-Declared.ensures ∙ ap (λ (s : TypeSynonym). c.args.synonyms.now.items ++ record { name = c.args.exported.now.name; entity = c.args.exported.now.entity; synonym = s } ∷ []) c.in_ok-declared_synonym-in-Declared.ensures) are

pub returns-in_ok-add_synonym-in-Imported-clause-types : goal.returns-in_ok-add_synonym-in-Imported-clause-types
returns-in_ok-add_synonym-in-Imported-clause-types c = λ k xs known up are. no_type_added c.args.known.now c.key_of.result c.args.exported.now c.key_of.ensures k xs known up c.in-Some.known.now c.in-Some.ensures.value
    c.in-Imported.synonym.now (ap (λ (v : KnownType). synonym_in (meaning_of v)) c.in-Imported.is) c.args.types.now.items are

pub returns-in_ok-add_synonym-in-Imported-clause-synonyms : goal.returns-in_ok-add_synonym-in-Imported-clause-synonyms
returns-in_ok-add_synonym-in-Imported-clause-synonyms c = λ k xs known up are. synonym_added c.args.known.now c.key_of.result c.args.exported.now c.key_of.ensures k xs known up c.in-Some.known.now c.in-Some.ensures.value
    c.in-Imported.synonym.now (ap (λ (v : KnownType). synonym_in (meaning_of v)) c.in-Imported.is) c.args.synonyms.now.items c.add_synonym-in-Imported.new.synonyms.items
    (c.in_ok-add_synonym-in-Imported.ensures ∙ ap (λ (s : TypeSynonym). c.args.synonyms.now.items ++ record { name = c.args.exported.now.name; entity = c.args.exported.now.entity; synonym = s } ∷ []) c.in_ok-copy-in-Imported.ensures) are
