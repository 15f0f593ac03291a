-- Edits in a row, with one more at the end, and a change that isn't in the source.
use Rattle.std.proofs.Common.{◌≡◌, ℕ, ◌+◌, ◌<◌, All, List, [], ◌∷◌, ◌++◌, length, map, take, get_or, refl, sym, ap, subst}
use Rattle.std.proofs.lemmas.List.{get_or-map, length-map, map_more}
use Rattle.std.proofs.lemmas.List.Elements.{All-get_or}
use Rattle.hm_messages_json.specs.Edits.{AreBothIn, AreEditsOf, Changed, IsEditOf, changed_of}
use Rattle.hm_messages_json.specs.declared.changes.Change.{Change}
use Rattle.hm_messages_json.specs.declared.message.Edit.{Edit}

one_more : (source : List ℕ) (cs : List Changed) (c : Changed) (es : List Edit) (e : Edit) → AreEditsOf source cs es → IsEditOf source c e → AreEditsOf source (cs ++ c ∷ []) (es ++ e ∷ [])
one_more source [] c es e none h = (e, [], h, refl, ap (λ (l : List Edit). l ++ e ∷ []) none)
one_more source (b ∷ cs) c es e each h = (each.0, each.1 ++ e ∷ [], each.2, one_more source cs c each.1 e each.3 h, ap (λ (l : List Edit). l ++ e ∷ []) each.4)

-- the step of a loop
pub taken_more : (source : List ℕ) (cs : List Change) (i : ℕ) (c : Change) (es next : List Edit) (e : Edit) → i < length cs → get_or cs i c ≡ c → AreEditsOf source (map changed_of (take i cs)) es → IsEditOf source (changed_of c) e → next ≡ es ++ e ∷ [] → AreEditsOf source (map changed_of (take (i + 1) cs)) next
taken_more source cs i c es next e within at each h same =
    let here : IsEditOf source (changed_of (get_or cs i c)) e = subst (λ (x : Change). IsEditOf source (changed_of x) e) (sym at) h in
    subst (AreEditsOf source (map changed_of (take (i + 1) cs))) (sym same)
    (subst (λ l. AreEditsOf source l (es ++ e ∷ [])) (sym (map_more changed_of cs i c within)) (one_more source (map changed_of (take i cs)) (changed_of (get_or cs i c)) es e each here))

-- a change that isn't in the source
pub not_all : (source : List ℕ) (cs : List Change) (i : ℕ) (c : Change) → i < length cs → get_or cs i c ≡ c → ¬ (AreBothIn source (changed_of c)) → ¬ (All (AreBothIn source) (map changed_of cs))
not_all source cs i c within at outside all =
    outside (subst (λ (x : Change). AreBothIn source (changed_of x)) at
    (subst (AreBothIn source) (get_or-map changed_of cs i c (changed_of c) within)
    (All-get_or (AreBothIn source) (map changed_of cs) i (changed_of c) (subst (λ n. i < n) (sym (length-map cs changed_of)) within) all)))
