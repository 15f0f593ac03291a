-- The grammar of single tokens, and of repetitions.
use Rattle.std.specs.Prelude.{◌≡◌, ◌⊎◌, ℕ, List, [], ◌∷◌}
use Rattle.hm_parse_grammar.specs.declared.symbol.Symbol.TheVariants.{Arrow, Open, Close, Comma, Semicolon, Var, Con, QVar, QCon}
use Rattle.hm_parse_grammar.specs.Tokens.{Terminal}

-- The tokens of the first list up to the second spell the tree.
abbrev pub Spelling : Type 0 → Type 1
Spelling A = A → List Terminal → List Terminal → Type 0

abbrev pub IsQvar : Terminal → Type 0
IsQvar k = (k.symbol ≡ Var) ⊎ (k.symbol ≡ QVar)

-- `qcon`, `qtycon` and `modid`
abbrev pub IsQcon : Terminal → Type 0
IsQcon k = (k.symbol ≡ Con) ⊎ (k.symbol ≡ QCon)

-- `->` isn't the next token
abbrev pub NoArrow : List Terminal → Type 0
NoArrow [] = Unit {0}
NoArrow (k ∷ ts) = k.symbol ≡ Arrow → ⊥

-- a variable that is special in imports
pub record IsWord (word : List ℕ) (k : Terminal) : Type 0 where
  pub variable : k.symbol ≡ Var
  pub text : k.text ≡ word

-- {',' X}*
pub data Commas {A : Type 0} (X : Spelling A) : List A → List Terminal → List Terminal → Type 0 where
  commas_none : {ts : List Terminal} → Commas X [] ts ts
  commas_more : {x : A} {xs : List A} {k : Terminal} {us vs rest : List Terminal} →
      k.symbol ≡ Comma → X x us vs → Commas X xs vs rest → Commas X (x ∷ xs) (k ∷ us) rest

-- [X {',' X}*]
pub data Row {A : Type 0} (X : Spelling A) : List A → List Terminal → List Terminal → Type 0 where
  row_none : {ts : List Terminal} → Row X [] ts ts
  row_some : {x : A} {xs : List A} {ts us rest : List Terminal} → X x ts us → Commas X xs us rest → Row X (x ∷ xs) ts rest

-- [',']
pub data MayComma : List Terminal → List Terminal → Type 0 where
  no_comma : {ts : List Terminal} → MayComma ts ts
  one_comma : {k : Terminal} {rest : List Terminal} → k.symbol ≡ Comma → MayComma (k ∷ rest) rest

-- '(' [X {',' X}*] [','] ')'
pub data Listed {A : Type 0} (X : Spelling A) : List A → List Terminal → List Terminal → Type 0 where
  listed : {xs : List A} {k m : Terminal} {us vs rest : List Terminal} →
      k.symbol ≡ Open → Row X xs us vs → MayComma vs (m ∷ rest) → m.symbol ≡ Close → Listed X xs (k ∷ us) rest

-- X ; .. where any item may be empty
pub data Items {A : Type 0} (X : Spelling A) : List A → List Terminal → List Terminal → Type 0 where
  items_none : {ts : List Terminal} → Items X [] ts ts
  items_last : {x : A} {ts rest : List Terminal} → X x ts rest → Items X (x ∷ []) ts rest
  items_empty : {xs : List A} {k : Terminal} {us rest : List Terminal} → k.symbol ≡ Semicolon → Items X xs us rest → Items X xs (k ∷ us) rest
  items_more : {x : A} {xs : List A} {k : Terminal} {ts us rest : List Terminal} →
      X x ts (k ∷ us) → k.symbol ≡ Semicolon → Items X xs us rest → Items X (x ∷ xs) ts rest
