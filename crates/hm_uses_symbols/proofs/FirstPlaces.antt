-- Symbols that were seen, and each symbol once, with one more.
use Rattle.std.proofs.Common.{◌≡◌, ℕ, ◌==◌, Bool, true, false, cond, not, ◌&&◌, ◌||◌, ◌⊎◌, List, [], ◌∷◌, ◌++◌, inl, inr, refl, sym, ap, ◌∙◌, append_assoc, bytes_eq}
use Rattle.std.specs.List.{filter, list_any}
use Rattle.std.proofs.lemmas.Bool.{cases_Bool}
use Rattle.std.proofs.lemmas.List.Elements.{filter-append}
use Rattle.std.proofs.lemmas.List.Folds.{list_any-append}
use Rattle.std.proofs.lemmas.Slice.Eq.{bytes_eq-Decides}
use Rattle.hm_names.specs.Texts.{is_text_among}
use Rattle.hm_scope_tables.proofs.TextSets.{more}
use Rattle.hm_uses_symbols.specs.Symbols.{SymbolOf, each_once, is_same, namespace_of}
use Rattle.hm_uses_symbols.specs.Seen.{HasSeen, is_seen, texts_of}
use Rattle.hm_uses_symbols.specs.declared.once.Seen.{Seen}
use Rattle.hm_uses_symbols.specs.declared.symbol.SymbolKind.{SymbolKind}
use Rattle.hm_uses_symbols.specs.declared.symbol.SymbolKind.TheVariants.{Module, DataType, Synonym, Constructor, Variable}

keep : (p : Bool) → p ≡ (p || false)
keep true = refl
keep false = refl

turn : (p q : Bool) → (p || q) ≡ (q || p)
turn true true = refl
turn true false = refl
turn false true = refl
turn false false = refl

-- a text more, unless it is there
with_text : (y : List ℕ) (a b : List (List ℕ)) (x : List ℕ) → b ≡ cond (is_text_among y a) a (a ++ y ∷ []) → is_text_among x b ≡ (is_text_among x a || bytes_eq x y)
with_text y a b x is = elim (cases_Bool (is_text_among y a)) [
  | inl there ↦ ap (is_text_among x) (is ∙ ap (λ t. cond t a (a ++ y ∷ [])) there) ∙ known there (cases_Bool (bytes_eq x y))
  | inr absent ↦ ap (is_text_among x) (is ∙ ap (λ t. cond t a (a ++ y ∷ [])) absent) ∙ more x y a ∙ turn (bytes_eq x y) (is_text_among x a)
]
  where
    known : is_text_among y a ≡ true → (bytes_eq x y ≡ true) ⊎ (bytes_eq x y ≡ false) → is_text_among x a ≡ (is_text_among x a || bytes_eq x y)
    known there (inl same) = let h : is_text_among x a ≡ true = ap (λ z. is_text_among z a) ((bytes_eq-Decides x y).0 same) ∙ there in h ∙ sym (ap (λ t. t || bytes_eq x y) h)
    known there (inr other) = keep (is_text_among x a) ∙ sym (ap (λ t. is_text_among x a || t) other)

-- what is seen after a name of each namespace
abbrev Adds : List (List ℕ) → List (List ℕ) → List ℕ → Type 0
Adds old new x = new ≡ cond (is_text_among x old) old (old ++ x ∷ [])

abbrev Sees : Seen → Seen → ℕ → List ℕ → Type 0
Sees old new n x = (k : SymbolKind) (y : List ℕ) → is_text_among y (texts_of k new) ≡ (is_text_among y (texts_of k old) || ((namespace_of k == n) && bytes_eq y x))

sees_module : (old : Seen) (new : List (List ℕ)) (x : List ℕ) → Adds old.modules new x → Sees old (record old { modules = new }) 0 x
sees_module old new x h Module y = with_text x old.modules new y h
sees_module old new x h DataType y = keep (is_text_among y old.types)
sees_module old new x h Synonym y = keep (is_text_among y old.types)
sees_module old new x h Constructor y = keep (is_text_among y old.constructors)
sees_module old new x h Variable y = keep (is_text_among y old.variables)

sees_type : (old : Seen) (new : List (List ℕ)) (x : List ℕ) → Adds old.types new x → Sees old (record old { types = new }) 1 x
sees_type old new x h Module y = keep (is_text_among y old.modules)
sees_type old new x h DataType y = with_text x old.types new y h
sees_type old new x h Synonym y = with_text x old.types new y h
sees_type old new x h Constructor y = keep (is_text_among y old.constructors)
sees_type old new x h Variable y = keep (is_text_among y old.variables)

sees_constructor : (old : Seen) (new : List (List ℕ)) (x : List ℕ) → Adds old.constructors new x → Sees old (record old { constructors = new }) 2 x
sees_constructor old new x h Module y = keep (is_text_among y old.modules)
sees_constructor old new x h DataType y = keep (is_text_among y old.types)
sees_constructor old new x h Synonym y = keep (is_text_among y old.types)
sees_constructor old new x h Constructor y = with_text x old.constructors new y h
sees_constructor old new x h Variable y = keep (is_text_among y old.variables)

sees_variable : (old : Seen) (new : List (List ℕ)) (x : List ℕ) → Adds old.variables new x → Sees old (record old { variables = new }) 3 x
sees_variable old new x h Module y = keep (is_text_among y old.modules)
sees_variable old new x h DataType y = keep (is_text_among y old.types)
sees_variable old new x h Synonym y = keep (is_text_among y old.types)
sees_variable old new x h Constructor y = keep (is_text_among y old.constructors)
sees_variable old new x h Variable y = with_text x old.variables new y h

noted : (old new : Seen) (symbol : SymbolOf) (n : ℕ) (x : List ℕ) → namespace_of symbol.kind ≡ n → symbol.name.text ≡ x → Sees old new n x → (s : SymbolOf) → is_seen s new ≡ (is_seen s old || is_same s symbol)
noted old new symbol n x space text sees s =
    sees s.kind s.name.text
    ∙ ap (λ (m : ℕ). is_seen s old || ((namespace_of s.kind == m) && bytes_eq s.name.text x)) (sym space)
    ∙ ap (λ (y : List ℕ). is_seen s old || ((namespace_of s.kind == namespace_of symbol.kind) && bytes_eq s.name.text y)) (sym text)

module _ (old : Seen) (new : List (List ℕ)) (symbol : SymbolOf) (x : List ℕ) (text : symbol.name.text ≡ x) where
  pub noted_module : symbol.kind ≡ Module → Adds old.modules new x → (s : SymbolOf) → is_seen s (record old { modules = new }) ≡ (is_seen s old || is_same s symbol)
  noted_module is h = noted old (record old { modules = new }) symbol 0 x (ap namespace_of is) text (sees_module old new x h)

  pub noted_type : namespace_of symbol.kind ≡ 1 → Adds old.types new x → (s : SymbolOf) → is_seen s (record old { types = new }) ≡ (is_seen s old || is_same s symbol)
  noted_type is h = noted old (record old { types = new }) symbol 1 x is text (sees_type old new x h)

  pub noted_constructor : symbol.kind ≡ Constructor → Adds old.constructors new x → (s : SymbolOf) → is_seen s (record old { constructors = new }) ≡ (is_seen s old || is_same s symbol)
  noted_constructor is h = noted old (record old { constructors = new }) symbol 2 x (ap namespace_of is) text (sees_constructor old new x h)

  pub noted_variable : symbol.kind ≡ Variable → Adds old.variables new x → (s : SymbolOf) → is_seen s (record old { variables = new }) ≡ (is_seen s old || is_same s symbol)
  noted_variable is h = noted old (record old { variables = new }) symbol 3 x (ap namespace_of is) text (sees_variable old new x h)

chosen : (p : SymbolOf → Bool) (s : SymbolOf) (a b : Bool) → p s ≡ not a → filter p (cond b [] (s ∷ [])) ≡ cond (a || b) [] (s ∷ [])
chosen p s true true is = refl
chosen p s false true is = refl
chosen p s true false is = ap (λ t. cond t (s ∷ []) []) is
chosen p s false false is = ap (λ t. cond t (s ∷ []) []) is

-- a symbol more, unless it is the same as one of the others
once_more : (ss : List SymbolOf) (s : SymbolOf) → each_once (ss ++ s ∷ []) ≡ each_once ss ++ cond (list_any (is_same s) ss) [] (s ∷ [])
once_more [] s = refl
once_more (t ∷ ts) s =
    let differs : SymbolOf → Bool = λ u. not (is_same u t) in
    ap (λ (l : List SymbolOf). t ∷ filter differs l) (once_more ts s)
    ∙ ap (λ (l : List SymbolOf). t ∷ l) (filter-append differs (each_once ts) (cond (list_any (is_same s) ts) [] (s ∷ [])) ∙ ap (λ (l : List SymbolOf). filter differs (each_once ts) ++ l) (chosen differs s (is_same s t) (list_any (is_same s) ts) refl))

-- the steps of a loop
pub seen_more : (ss : List SymbolOf) (s : SymbolOf) (old new : Seen) → HasSeen ss old → ((t : SymbolOf) → is_seen t new ≡ (is_seen t old || is_same t s)) → HasSeen (ss ++ s ∷ []) new
seen_more ss s old new so_far step = λ t. step t ∙ ap (λ b. b || is_same t s) (so_far t) ∙ ap (λ b. list_any (is_same t) ss || b) (keep (is_same t s)) ∙ sym (list_any-append (is_same t) ss (s ∷ []))

is_new : (a b : Bool) → a ≡ not b → a ≡ true → b ≡ false
is_new a true e h = let z : true ≡ false = sym h ∙ e in absurd (cc)
is_new a false e h = refl

is_old : (a b : Bool) → a ≡ not b → a ≡ false → b ≡ true
is_old a true e h = refl
is_old a false e h = let z : false ≡ true = sym h ∙ e in absurd (cc)

module _ (ss : List SymbolOf) (s : SymbolOf) (start old : List SymbolOf) (seen : Seen) (mark : Bool) (so_far : old ≡ start ++ each_once ss) (has : HasSeen ss seen) (is : mark ≡ not (is_seen s seen)) where
  pub found_more : (new : List SymbolOf) → mark ≡ true → new ≡ old ++ s ∷ [] → new ≡ start ++ each_once (ss ++ s ∷ [])
  found_more new set pushed =
      let absent : list_any (is_same s) ss ≡ false = sym (has s) ∙ is_new mark (is_seen s seen) is set in
      pushed ∙ ap (λ (l : List SymbolOf). l ++ s ∷ []) so_far ∙ append_assoc start (each_once ss) (s ∷ [])
      ∙ ap (λ (l : List SymbolOf). start ++ l) (sym (once_more ss s ∙ ap (λ b. each_once ss ++ cond b [] (s ∷ [])) absent))

  pub found_same : mark ≡ false → old ≡ start ++ each_once (ss ++ s ∷ [])
  found_same clear =
      let there : list_any (is_same s) ss ≡ true = sym (has s) ∙ is_old mark (is_seen s seen) is clear in
      so_far ∙ ap (λ (l : List SymbolOf). start ++ l) (sym (once_more ss s ∙ ap (λ b. each_once ss ++ cond b [] (s ∷ [])) there ∙ nothing (each_once ss)))
    where
      nothing : (l : List SymbolOf) → l ++ [] ≡ l
      nothing [] = refl
      nothing (x ∷ xs) = ap (λ (m : List SymbolOf). x ∷ m) (nothing xs)
