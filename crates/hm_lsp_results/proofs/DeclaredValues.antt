-- A value for each symbol, and the symbols of a source.
use Rattle.std.proofs.Common.{◌≡◌, ℕ, ◌+◌, ◌<◌, ◌≤◌, List, [], ◌∷◌, ◌++◌, Some, length, map, take, get_or, refl, sym, ap, subst, ◌∙◌}
use Rattle.std.proofs.lemmas.List.{map-append, take_all, take_more}
use Rattle.std.specs.List.{AllZip}
use Rattle.serde_json.specs.Data.{Data}
use Rattle.serde_json.specs.View.{view}
use Rattle.serde_json.specs.declared.value.Value.{Value}
use Rattle.hm_lsp_results.proofs.Chosen.{zip_pushed}
use Rattle.hm_lsp_results.proofs.Found.{at_get}
use Rattle.hm_lsp_results.specs.Asked.{Subject}
use Rattle.hm_lsp_results.specs.References.{AreValues}
use Rattle.hm_lsp_results.specs.Results.{IsResultOf}
use Rattle.hm_lsp_results.specs.Symbols.{IsSymbolsResult, held}
use Rattle.hm_lsp_session.specs.declared.stages.Question.{Question}
use Rattle.hm_lsp_session.specs.declared.stages.Question.TheVariants.{DocumentSymbol}
use Rattle.hm_lsp_values.specs.Symbols.{IsSymbol}
use Rattle.hm_service_sources.specs.declared.held.HeldSource.{HeldSource}
use Rattle.hm_service_symbols.specs.SourceSymbols.{AreSymbolsOf}
use Rattle.hm_uses_symbols.specs.Symbols.{SymbolOf}

-- the step of a loop that makes a value of each member
pub value_more : {X : Type 0} (P : X → Data → Type 0) (xs : List X) (i : ℕ) (x : X) (v : Value) (old new : List Value) → i < length xs → x ≡ get_or xs i x → AllZip P (take i xs) (map view old) → P x (view v) → new ≡ old ++ v ∷ []
    → AllZip P (take (i + 1) xs) (map view new)
value_more P xs i x v old new low at before own pushed =
    let values : map view new ≡ map view old ++ view v ∷ [] = ap (map view) pushed ∙ map-append view old (v ∷ []) in
    let members : take (i + 1) xs ≡ take i xs ++ x ∷ [] = take_more xs i x low ∙ ap (λ y. take i xs ++ y ∷ []) (sym at) in
    subst (λ l. AllZip P l (map view new)) (sym members) (subst (λ l. AllZip P (take i xs ++ x ∷ []) l) (sym values) (zip_pushed P (take i xs) (map view old) x (view v) before own))

pub all_valued : {X : Type 0} (P : X → Data → Type 0) (xs : List X) (i : ℕ) (values : List Data) → length xs ≤ i → AllZip P (take i xs) values → AllZip P xs values
all_valued P xs i values ends h = subst (λ l. AllZip P l values) (take_all i xs ends) h

pub symbols_held : (asked : Subject) (n : ℕ) (source : HeldSource) (text : List ℕ) (symbols own : List SymbolOf) (value : Data) → n < length asked.held → source ≡ get_or asked.held n source → text ≡ source.standing.items
    → AreSymbolsOf asked.checked n symbols → own ≡ symbols → AreValues (IsSymbol asked.encoding text) own value → IsSymbolsResult asked n value
symbols_held asked n source text symbols own value low at is are same values =
    held (at_get asked.held n source low at) are (subst (λ (t : List ℕ). AreValues (IsSymbol asked.encoding t) symbols value) is (subst (λ (l : List SymbolOf). AreValues (IsSymbol asked.encoding text) l value) same values))

pub symbols_result : (asked : Subject) (question : Question) (n : ℕ) (request value : Data) → question ≡ DocumentSymbol → IsSymbolsResult asked n value → IsResultOf asked question n request (Some value)
symbols_result asked question n request value is result = subst (λ (q : Question). IsResultOf asked q n request (Some value)) (sym is) (value, (result, refl))
