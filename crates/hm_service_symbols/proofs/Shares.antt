-- Sources that are gone through.
use Rattle.std.proofs.Common.{◌≡◌, ℕ, ◌+◌, ◌<◌, ◌≤◌, List, [], ◌∷◌, ◌++◌, drop, get_or, length, map, take, refl, sym, ap, ◌∙◌, append_assoc}
use Rattle.std.specs.List.{flat_map}
use Rattle.std.proofs.lemmas.List.{append-nil, drop_all, get_or_default}
use Rattle.hm_names.proofs.Rows.{unrolled}
use Rattle.hm_syntax.specs.declared.ast.Module.{Module}
use Rattle.hm_service_symbols.specs.SetSymbols.{SymbolIn, set_symbols, symbol_in}
use Rattle.hm_service_symbols.specs.SourceModules.{modules_of}
use Rattle.hm_uses_symbols.specs.Symbols.{SymbolOf, symbols_of}

no_counts : (source : ℕ) (part : List ℕ) (ms : List Module) → modules_of source part [] ms ≡ []
no_counts source [] ms = refl
no_counts source (n ∷ part) ms = refl

pub none_counted : (source : ℕ) (part counts : List ℕ) (i : ℕ) (ms : List Module) → length counts ≤ i → modules_of source part (drop i counts) ms ≡ []
none_counted source part counts i ms past = ap (λ (ks : List ℕ). modules_of source part ks ms) (drop_all i counts past) ∙ no_counts source part ms

no_symbols : (part : List ℕ) (ms : List Module) → set_symbols part [] ms ≡ []
no_symbols [] ms = refl
no_symbols (n ∷ part) ms = refl

-- a source without a count has no symbols
pub all_counted : (part counts : List ℕ) (i : ℕ) (ms : List Module) (found all : List SymbolIn) → length counts ≤ i → found ++ set_symbols part (drop i counts) ms ≡ all → found ≡ all
all_counted part counts i ms found all past so_far =
    sym (append-nil found) ∙ ap (λ (l : List SymbolIn). found ++ l) (sym (ap (λ (ks : List ℕ). set_symbols part ks ms) (drop_all i counts past) ∙ no_symbols part ms)) ∙ so_far

-- the symbols of one source more
pub source_more : (part counts : List ℕ) (i n k : ℕ) (ms own later : List Module) (symbols : List SymbolOf) (old new all : List SymbolIn) → i < length part → n ≡ get_or part i 0 → i < length counts → k ≡ get_or counts i 0
    → own ≡ take k ms → later ≡ drop k ms → symbols ≡ flat_map symbols_of own → new ≡ old ++ map (symbol_in n) symbols → old ++ set_symbols (drop i part) (drop i counts) ms ≡ all
    → new ++ set_symbols (drop (i + 1) part) (drop (i + 1) counts) later ≡ all
source_more part counts i n k ms own later symbols old new all here at counted count first others are added so_far =
    let rest : List SymbolIn = set_symbols (drop (i + 1) part) (drop (i + 1) counts) (drop k ms) in
    ap (λ (l : List Module). new ++ set_symbols (drop (i + 1) part) (drop (i + 1) counts) l) others
    ∙ ap (λ (l : List SymbolIn). l ++ rest) (added ∙ ap (λ (l : List SymbolOf). old ++ map (symbol_in n) l) (are ∙ ap (flat_map symbols_of) first))
    ∙ append_assoc old (map (symbol_in n) (flat_map symbols_of (take k ms))) rest
    ∙ ap (λ (l : List SymbolIn). old ++ l) (sym (ap (λ (p : List ℕ). set_symbols p (drop i counts) ms) (unrolled part i n here (at ∙ get_or_default part i 0 n here)) ∙ ap (λ (c : List ℕ). set_symbols (n ∷ drop (i + 1) part) c ms) (unrolled counts i k counted (count ∙ get_or_default counts i 0 k counted))))
    ∙ so_far
