-- Reading as functions on lists of tokens, which return a tree and the tokens after it. No public clause names these.
use Rattle.std.specs.Prelude.{ℕ, zero, suc, List, [], ◌∷◌, ◌++◌, Bool, true, false, ◌&&◌, nat_le, Option, Some, None, if◌then◌else◌, option_and_then, length}
use Rattle.std.specs.Str.{bytes_eq}
use Rattle.hm_syntax.specs.Names.{Identifier}
use Rattle.hm_parse_grammar.specs.declared.symbol.Symbol.{Symbol}
use Rattle.hm_parse_grammar.specs.declared.symbol.Symbol.TheVariants.{Close, CloseSquare, Comma, Semicolon, Var, End}
use Rattle.hm_parse_grammar.specs.Symbols.{same, is_qcon}
use Rattle.hm_parse_grammar.specs.Tokens.{Terminal, name_of, modid_of}

infixl 10 ◌>>=◌
abbrev pub ◌>>=◌ : {A B : Type 0} → Option A → (A → Option B) → Option B
o >>= f = option_and_then f o

abbrev pub Reader : Type 0 → Type 0
Reader A = List Terminal → Option (A × List Terminal)

abbrev pub peek : List Terminal → Symbol
peek [] = End
peek (k ∷ ts) = k.symbol

abbrev pub is_at : Symbol → List Terminal → Bool
is_at s ts = same (peek ts) s

abbrev pub is_done : List Terminal → Bool
is_done [] = true
is_done (k ∷ ts) = false

abbrev pub tail : List Terminal → List Terminal
tail [] = []
tail (k ∷ ts) = ts

-- the tokens after this symbol
abbrev pub expect : Symbol → List Terminal → Option (List Terminal)
expect s [] = None
expect s (k ∷ ts) = if same k.symbol s then Some ts else None

-- a variable with this text is next
abbrev pub is_at_word : List ℕ → List Terminal → Bool
is_at_word word [] = false
is_at_word word (k ∷ ts) = same k.symbol Var && bytes_eq k.text word

-- the token as a name
abbrev pub name_at : Reader Identifier
name_at [] = None
name_at (k ∷ ts) = Some (name_of k, ts)

abbrev pub module_name_at : Reader Identifier
module_name_at [] = None
module_name_at (k ∷ ts) = Some (modid_of k, ts)

unfoldable pub modid_at : Reader Identifier
modid_at ts = if is_qcon (peek ts) then module_name_at ts else None

-- after an item: past a separator, or before the end
unfoldable pub item_end : Symbol → Symbol → List Terminal → Option (List Terminal)
item_end separator end ts = if is_at separator ts then Some (tail ts) else if is_at end ts then Some ts else None

unfoldable pub past_semicolons : List Terminal → List Terminal
past_semicolons [] = []
past_semicolons (k ∷ ts) = if same k.symbol Semicolon then past_semicolons ts else k ∷ ts

-- ---- rows: next reads one more element, or the end of the row

abbrev pub loop_with : {A : Type 0} → Reader (List A) → Option (Option A × List Terminal) → Option (List A × List Terminal)
loop_with r None = None
loop_with r (Some (None, us)) = Some ([], us)
loop_with r (Some (Some a, us)) = r us >>= λ x. Some (a ∷ x.0, x.1)

-- gives up after n nested calls
abbrev pub loop_for : {A : Type 0} → ℕ → Reader (Option A) → Reader (List A)
loop_for zero next ts = None
loop_for (suc n) next ts = loop_with (loop_for n next) (next ts)

-- each element takes a token, so as many calls as there are tokens are enough
unfoldable pub loop : {A : Type 0} → Reader (Option A) → Reader (List A)
loop next ts = loop_for (suc (length ts)) next ts

-- the elements read so far, and those of the rest
abbrev pub behind : {A : Type 0} → List A → Option (List A × List Terminal) → Option (List A × List Terminal)
behind xs None = None
behind xs (Some r) = Some (xs ++ r.0, r.1)

-- ---- rows with commas between elements

-- a comma and one more element, which r reads
unfoldable pub next_of : {A : Type 0} → Reader A → Reader (Option A)
next_of r ts = if is_at Comma ts
    then (do
      x ← r (tail ts)
      Some (Some x.0, x.1))
    else Some (None, ts)

-- the tuple of these components, unless they are too many
abbrev pub tuple_of : {A B : Type 0} → (List A → B) → List A → Option B
tuple_of make xs = if nat_le (length xs) 15 then Some (make xs) else None

-- a tuple after its first component
unfoldable pub tuple_behind : {A B : Type 0} → Reader A → (List A → B) → A → Reader B
tuple_behind r make x ts = do
  xs ← behind (x ∷ []) (loop (next_of r) ts)
  us ← expect Close xs.1
  tuple ← tuple_of make xs.0
  Some (tuple, us)

-- the rest after `(` and one element, which is alone or the first of a tuple
unfoldable pub closing : {A : Type 0} → Reader A → (List A → A) → A → Reader A
closing r make x ts = if is_at Comma ts then tuple_behind r make x ts
    else (do
      us ← expect Close ts
      Some (x, us))

-- a list after `[`
unfoldable pub list_in : {A : Type 0} → Reader A → (List A → A) → Reader A
list_in r make ts = do
  x ← r ts
  xs ← behind (x.0 ∷ []) (loop (next_of r) x.1)
  us ← expect CloseSquare xs.1
  Some (make xs.0, us)
