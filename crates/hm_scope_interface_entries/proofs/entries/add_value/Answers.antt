use Rattle.std.proofs.Common.{◌∙◌, ◌++◌, ◌∷◌, [], refl}
use Rattle.hm_names.specs.SchemeTables.{scheme_of}
use Rattle.hm_scope_interface_entries.proofs.EntriesMade.{values_skipped, value_added, none_is_not, some_is_some}
use Rattle.hm_scope_interface_entries.proofs.entries.add_value.Goals as goal

pub returns-in_default : goal.returns-in_default
returns-in_default c = λ k xs known up are. values_skipped k (scheme_of c.args.values.now.schemes.now) xs c.args.exported.now up c.args.entries.now.items
    (λ t h. none_is_not t ((c.in_default.ensures k known t).1 h)) are

pub returns : goal.returns
returns c = λ k xs known up are. value_added k (scheme_of c.args.values.now.schemes.now) xs c.args.exported.now up c.in-Some.scheme.now
    ((c.in-Some.ensures k known c.in-Some.scheme.now).0 refl)
    (λ u h. some_is_some ((c.in-Some.ensures k known u).1 h))
    c.args.entries.now.items c.push.new.self.items
    (c.in_ok-push.ensures.items ∙ λ i. c.args.entries.now.items ++ record { name = c.in_ok-copy.ensures i; entity = c.in_ok-copy-2.ensures i; scheme = c.in_ok-copy-3.ensures i } ∷ []) are
