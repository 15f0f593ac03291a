use Rattle.std.proofs.Common.{rules, ◌≡◌, ◌++◌, List, [], append_assoc, codes, string_bytes, subst, sym, ℕ}
use Rattle.std.specs.Prelude.{IfSome}
use Rattle.hm_names.specs.Entities.{Belongs}
use Rattle.hm_names.specs.declared.namespace.Namespace.TheVariants.{Constructors}
use Rattle.hm_messages_exporters.specs.Exported.{IsItem, a_constructor, everything}
use Rattle.hm_messages_exporters.proofs.exports.constructor_item.Goals as goal

pub returns-in_ok-format-in-Some : goal.returns-in_ok-format-in-Some
returns-in_ok-format-in-Some c =
    let f = c.args.interface.now in
    let x = c.args.name.now in
    let t : List ℕ = c.in-Some.owner.now in
    let belongs : Belongs f t x = subst (λ o. IfSome o (λ s. Belongs f s.now x)) c.in-Some.is c.owner_of.ensures in
    let text : string_bytes c.in_ok-format-in-Some.field-0 ≡ codes " (" ++ t ++ codes "(" ++ x ++ codes "))" = simp append_assoc (search rules) in
    subst (IsItem f x Constructors) (sym text) (a_constructor belongs)

pub returns-in-None : goal.returns-in-None
returns-in-None c =
    let text : string_bytes c.new.result ≡ [] = search rules in
    subst (IsItem c.args.interface.now c.args.name.now Constructors) (sym text) everything
