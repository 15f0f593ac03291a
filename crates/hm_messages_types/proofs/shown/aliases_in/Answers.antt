use Rattle.std.proofs.Common.{rules, ◌≡◌, ◌++◌, ◌∷◌, [], All, inl, inr, subst, sym}
use Rattle.std.proofs.lemmas.List.Elements.{All-append}
use Rattle.hm_messages_types.specs.Aliases.{alias_of}
use Rattle.hm_messages_types.specs.Shown.{IsName, IsNameIn}
use Rattle.hm_messages_types.specs.declared.shown.Alias.{Alias}
use Rattle.hm_messages_types.proofs.Folding.{all_so, one}
use Rattle.hm_messages_types.proofs.shown.aliases_in.Goals as goal

-- the module's own names alone
pub returns-in_default : goal.returns-in_default
returns-in_default c =
    all_so (λ (a : Alias). IsNameIn c.args.question.now.name.now c.args.interface.now (alias_of a)) (λ (a : Alias). IsName c.args.question.now.name.now c.args.interface.now (alias_of a)) (λ a h. inl h)
    c.in_ok-found.found.items c.in_ok-found.ensures

pub returns : goal.returns
returns c =
    let is : Alias → Type 0 = λ a. IsName c.args.question.now.name.now c.args.interface.now (alias_of a) in
    let before : All is c.in_ok-found.found.items =
    all_so (λ (a : Alias). IsNameIn c.args.question.now.name.now c.args.interface.now (alias_of a)) is (λ a h. inl h) c.in_ok-found.found.items c.in_ok-found.ensures in
    let pushed : c.push.new.self.items ≡ c.in_ok-found.found.items ++ c.in-Some.alias ∷ [] = search rules in
    let last : is c.in-Some.alias = inr (search rules) in
    subst (All is) (sym pushed) (All-append is c.in_ok-found.found.items (c.in-Some.alias ∷ []) before (one is c.in-Some.alias last))
