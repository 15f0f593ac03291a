use Rattle.std.proofs.Common.{rules, ◌≡◌, ◌++◌, All, Option, None, Some, arith, subst, sym}
use Rattle.std.specs.Prelude.{IfSome, option_to_list}
use Rattle.std.proofs.lemmas.List.Elements.{All-append}
use Rattle.hm_messages_types.specs.Aliases.{alias_of}
use Rattle.hm_messages_types.specs.declared.shown.Alias.{Alias}
use Rattle.hm_messages_types.proofs.Folding.{one}
use Rattle.hm_messages_type_names.specs.TypeNames.{IsBareName}
use Rattle.hm_messages_type_names.proofs.names.bare_names.Goals as goal

all_if : (P : Alias → Type 0) (found : Option Alias) → IfSome found P → All P (option_to_list found)
all_if P None h = λ k d l. absurd (omega (arith, l))
all_if P (Some a) h = one P a h

pub loop-entity-preserved : goal.loop-entity-preserved
loop-entity-preserved c = λ m fs scope.
    let is : Alias → Type 0 = λ a. IsBareName m fs (alias_of a) in
    let before = c.loop-entity.names.items in
    let found = c.in_ok-found.found in
    let added : c.add_name.new.names.items ≡ before ++ option_to_list found = search rules in
    let so : IfSome found is = c.in_ok-found.ensures m fs scope in
    subst (All is) (sym added) (All-append is before (option_to_list found) (c.loop-entity.invariant m fs scope) (all_if is found so))
