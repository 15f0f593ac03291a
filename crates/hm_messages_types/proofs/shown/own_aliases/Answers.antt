use Rattle.std.proofs.Common.{rules, ◌≡◌, ◌++◌, ◌∷◌, [], All, Contains, subst, sym}
use Rattle.std.proofs.lemmas.List.Elements.{All-append}
use Rattle.hm_messages_types.specs.Aliases.{alias_of}
use Rattle.hm_messages_types.specs.Shown.{IsAlias, IsNameIn}
use Rattle.hm_messages_types.specs.declared.shown.Alias.{Alias}
use Rattle.hm_messages_types.proofs.Folding.{one}
use Rattle.hm_messages_types.proofs.shown.own_aliases.Goals as goal

pub loop-index-preserved : goal.loop-index-preserved
loop-index-preserved c =
    let home = c.args.question.now.name.now in
    let exports = c.args.interface.now in
    let is : Alias → Type 0 = λ a. IsNameIn home exports (alias_of a) in
    let entry = c.index-entries-index.result in
    let alias = c.in-Some.alias in
    let listed : Contains exports.synonyms entry = search rules in
    let stands : IsAlias home entry (alias_of alias) = search rules in
    let pushed : c.push.new.self.items ≡ c.loop-index.found.items ++ alias ∷ [] = search rules in
    subst (All is) (sym pushed) (All-append is c.loop-index.found.items (alias ∷ []) c.loop-index.invariant (one is alias (entry, listed, stands)))
