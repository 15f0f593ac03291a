use Rattle.std.proofs.Common.{◌≡◌, ◌∙◌, ◌++◌, ◌∷◌, [], Some, ap, sym}
use Rattle.hm_names.specs.Cores.{own}
use Rattle.hm_names.specs.SchemeTables.{scheme_of}
use Rattle.hm_scope_interface_entries.proofs.OwnEntries.{own_only}
use Rattle.hm_scope_interface_entries.proofs.EntriesMade.{values_skipped, value_added, none_is_not, some_is_some}
use Rattle.hm_scope_interface_entries.proofs.entries.add_own_value.Goals as goal

pub returns-in_default : goal.returns-in_default
returns-in_default c = λ k xs top up are. values_skipped k (scheme_of c.args.schemes.now) xs c.args.exported.now up c.args.entries.now.items
    (λ t h. none_is_not t (c.in_default.ensures ∙ (ap (scheme_of c.args.schemes.now) c.as_str.ensures ∙ own_only k (scheme_of c.args.schemes.now) c.args.exported.now.entity top h))) are

pub returns : goal.returns
returns c = λ k xs top up are.
    let given : Some c.in-Some.scheme.now ≡ scheme_of c.args.schemes.now c.args.exported.now.entity.name = c.in-Some.ensures ∙ ap (scheme_of c.args.schemes.now) c.as_str.ensures in
    value_added k (scheme_of c.args.schemes.now) xs c.args.exported.now up c.in-Some.scheme.now
    (own top (sym given))
    (λ u h. some_is_some (given ∙ own_only k (scheme_of c.args.schemes.now) c.args.exported.now.entity top h))
    c.args.entries.now.items c.push.new.self.items
    (c.in_ok-push.ensures.items ∙ λ i. c.args.entries.now.items ++ record { name = c.in_ok-copy.ensures i; entity = c.in_ok-copy-2.ensures i; scheme = c.in_ok-copy-3.ensures i } ∷ []) are
