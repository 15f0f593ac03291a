-- The character at the front of some bytes.
use Rattle.std.proofs.Common.{◌≡◌, ◌≢◌, ℕ, suc, ◌+◌, ◌-◌, ◌<◌, ◌≤◌, Bool, true, false, eqb, List, [], ◌∷◌, ◌++◌, length, get_or, take, drop, Some, None, refl, sym, ap, ◌∙◌, subst, inl, inr, arith, append_assoc, length-append, length-take-le, length-drop}
use Rattle.std.specs.Prelude.{encode_utf8, IsTrue, ◌↔◌}
use Rattle.std.specs.Str.{IsUtf8}
use lib.Utf8.{scalar, scalars}
use Rattle.std.specs.List.{AllByRecursion, prefix_len}
use Rattle.std.specs.Char.{IsScalar}
use Rattle.std.proofs.lemmas.Bool.{and_parts, false≢true, eqb-true}
use Rattle.std.proofs.lemmas.List.{append-nil, take_more, drop_more}
use Rattle.std.proofs.lemmas.Str.{char_from_byte, inside_one, cons_from_encodes, encode_same, IsUtf8-encode}
use Rattle.hm_lex.specs.declared.byte_class.ByteClass.{ByteClass}
use Rattle.hm_lex.specs.declared.byte_class.ByteClass.TheVariants.{Quote, Special}
use Rattle.hm_lex.specs.declared.token.Kind.TheVariants.{Character}
use Rattle.hm_lex.specs.Bytes.{class_of}
use Rattle.hm_lex.specs.Quotes.{IsPlainCharacter, IsEscape, IsCharacterItem, IsCharacter}
use Rattle.hm_lex.specs.Shapes.{Shape, lexeme, HasShape}
use Rattle.hm_lex.specs.Cut.{Begins, IsLongest, shape_of}
use Rattle.hm_lex.specs.Faults.{NoItemBegins, OpenCommentBegins}
use Rattle.hm_lex.specs.Next.{StartsWith, is_unquoted}
use Rattle.hm_lex.specs.Quoting.{escape_len}
use Rattle.hm_lex.proofs.Prefix.{IsPrefix, prefix_from, begins_take, run_whole}
use Rattle.hm_lex.proofs.ByFirst.{FromFirst, first, no_shape_nil}
use Rattle.hm_lex.proofs.Malformed.{no_open_comment}
use Rattle.hm_lex.proofs.Digits.{quote_is}
use Rattle.hm_lex.proofs.Escapes.{escape_sound, escape_complete, take_front}

abbrev pub IsItem : List ℕ → Type 0
IsItem t = IsCharacterItem 39 t (39 ∷ [])

abbrev pub Only : ℕ → List ℕ → Type 0
Only n bytes = (t : List ℕ) → IsItem t → Begins (t ++ 39 ∷ []) bytes → length t ≡ n

abbrev pub Never : List ℕ → Type 0
Never bytes = (t : List ℕ) → IsItem t → Begins (t ++ 39 ∷ []) bytes → ⊥

abbrev pub Found : ℕ → List ℕ → Type 0
Found n bytes = Begins (39 ∷ []) (drop n bytes) → IsItem (take n bytes)

-- ---- behind a backslash

pub found_escape : (bytes : List ℕ) (n : ℕ) → get_or bytes 0 0 ≡ 92 → escape_len (drop 1 bytes) ≡ Some n → Found (n + 1) bytes
found_escape [] n f e b = absurd (omega arith)
found_escape (y ∷ ys) n f e b =
    let size : n + 1 ≡ suc n = omega arith in
    let p : IsPrefix (39 ∷ []) (drop n ys) = subst (λ (m : ℕ). IsPrefix (39 ∷ []) (drop m (y ∷ ys))) size (prefix_from (39 ∷ []) (drop (n + 1) (y ∷ ys)) b) in
    let i : IsEscape (92 ∷ take n ys) (39 ∷ []) = escape_sound ys (39 ∷ []) n e (omega arith) p in
    inr (subst (λ (t : List ℕ). IsEscape t (39 ∷ [])) (ap (λ (c : ℕ). c ∷ take n ys) (sym f) ∙ ap (λ (m : ℕ). take m (y ∷ ys)) (sym size)) i)

-- an item where a backslash stands is an escape
escape_here : (bytes t : List ℕ) → get_or bytes 0 0 ≡ 92 → IsItem t → Begins (t ++ 39 ∷ []) bytes → IsEscape t (39 ∷ [])
escape_here bytes t f (inr i) b = i
escape_here bytes t f (inl (c, s, l, m, n, e)) b =
    let g : bytes ≡ encode_utf8 c ++ (39 ∷ b.0) = sym b.1 ∙ append_assoc t (39 ∷ []) b.0 ∙ ap (λ (u : List ℕ). u ++ (39 ∷ b.0)) e in
    let some : 0 < length bytes = omega (arith, ap length g, length-append (encode_utf8 c) (39 ∷ b.0)) in
    absurd (n (char_from_byte bytes (39 ∷ b.0) c g (omega (arith, f)) some ∙ f))

escape_size : (bytes t : List ℕ) → get_or bytes 0 0 ≡ 92 → IsItem t → Begins (t ++ 39 ∷ []) bytes → escape_len (drop 1 bytes) ≡ Some (length t - 1)
escape_size bytes t f i b =
    let k = escape_complete bytes t (39 ∷ []) (escape_here bytes t f i b) (omega arith) (prefix_from (t ++ 39 ∷ []) bytes b) in
    ap (λ (u : List ℕ). escape_len (drop 1 u)) k.at.bytes_are ∙ k.len ∙ ap Some (let e : length k.at.tail ≡ length t - 1 = omega (arith, ap length k.at.text_is) in e)

item_positive : (bytes t : List ℕ) → get_or bytes 0 0 ≡ 92 → IsItem t → Begins (t ++ 39 ∷ []) bytes → 0 < length t
item_positive bytes t f i b =
    let k = escape_complete bytes t (39 ∷ []) (escape_here bytes t f i b) (omega arith) (prefix_from (t ++ 39 ∷ []) bytes b) in
    omega (arith, ap length k.at.text_is)

pub only_escape : (bytes : List ℕ) (n : ℕ) → get_or bytes 0 0 ≡ 92 → escape_len (drop 1 bytes) ≡ Some n → Only (n + 1) bytes
only_escape bytes n f e t i b =
    let same : length t - 1 ≡ n = (let g : Some (length t - 1) ≡ Some n = sym (escape_size bytes t f i b) ∙ e in cc) in
    omega (arith, item_positive bytes t f i b, same)

pub never_escape : (bytes : List ℕ) → get_or bytes 0 0 ≡ 92 → escape_len (drop 1 bytes) ≡ None → Never bytes
never_escape bytes f e t i b = let g : Some (length t - 1) ≡ None = sym (escape_size bytes t f i b) ∙ e in cc

-- ---- a character that stands for itself

all_bytes : (test : ℕ → Bool) (xs : List ℕ) → ((k : ℕ) → k < length xs → test (get_or xs k 0) ≡ true) → AllByRecursion (λ b. IsTrue (test b)) xs
all_bytes test [] h = tt
all_bytes test (x ∷ xs) h = (h 0 (omega arith), all_bytes test xs (λ k lt. h (suc k) (omega arith)))

unquoted : (b : ℕ) → b ≢ 39 → is_unquoted b ≡ true
unquoted b n = go (eqb b 39) refl
  where
    go : (x : Bool) → eqb b 39 ≡ x → is_unquoted b ≡ true
    go true e = absurd (n (eqb-true b 39 e))
    go false e = rw e refl

unquoted_bytes : (c : ℕ) → c ≢ 39 → AllByRecursion (λ b. IsTrue (is_unquoted b)) (encode_utf8 c)
unquoted_bytes c n = all_bytes is_unquoted (encode_utf8 c) (λ k lt. unquoted (get_or (encode_utf8 c) k 0) (λ e.
    n (inside_one c [] (encode_utf8 c) k (sym (append-nil (encode_utf8 c))) lt (omega (arith, e)) ∙ e)))

-- an item where no backslash stands is a character
pub plain_here : (bytes t : List ℕ) → get_or bytes 0 0 ≢ 92 → IsItem t → Begins (t ++ 39 ∷ []) bytes → IsPlainCharacter 39 t
plain_here bytes t f (inl i) b = i
plain_here bytes t f (inr i) b =
    let k = escape_complete bytes t (39 ∷ []) i (omega arith) (prefix_from (t ++ 39 ∷ []) bytes b) in
    absurd (f (ap (λ (u : List ℕ). get_or u 0 0) k.at.bytes_are))

pub only_plain : (bytes : List ℕ) (n : ℕ) → get_or bytes 0 0 ≢ 92 → n ≡ prefix_len is_unquoted bytes → Only n bytes
only_plain bytes n f e t i b =
    let c = plain_here bytes t f i b in
    let all : AllByRecursion (λ b. IsTrue (is_unquoted b)) t = subst (λ (u : List ℕ). AllByRecursion (λ b. IsTrue (is_unquoted b)) u) (sym c.5) (unquoted_bytes c.0 c.3) in
    run_whole is_unquoted t 39 [] bytes all refl (prefix_from (t ++ 39 ∷ []) bytes b) ∙ sym e

pub never_plain : (bytes : List ℕ) (n : ℕ) → get_or bytes 0 0 ≢ 92 → n ≡ prefix_len is_unquoted bytes → (IsPlainCharacter 39 (take n bytes) → ⊥) → Never bytes
never_plain bytes n f e bad t i b =
    let size : length t ≡ n = only_plain bytes n f e t i b in
    bad (subst (λ (u : List ℕ). IsPlainCharacter 39 u) (sym (take_front t (39 ∷ []) bytes (prefix_from (t ++ 39 ∷ []) bytes b)) ∙ ap (λ (m : ℕ). take m bytes) size) (plain_here bytes t f i b))

abbrev Plain : ℕ → Type 0
Plain c = (32 ≤ c) × (c ≢ 39) × (c ≢ 92)

scalar_of : (bytes : List ℕ) (c : ℕ) → IsUtf8 bytes → bytes ≡ encode_utf8 c → IsScalar c
scalar_of bytes c (cs, both) e =
    let k = cons_from_encodes cs [] c (both.1 ∙ e ∙ sym (append-nil (encode_utf8 c))) in
    (and_parts (scalar c) (scalars k.0) (ap scalars (sym k.1) ∙ both.0)).0

pub plain_parsed : (bytes : List ℕ) (c : ℕ) (r : Bool) → IsUtf8 bytes → bytes ≡ encode_utf8 c → (IsTrue r ↔ Plain c) → IsTrue r ↔ IsPlainCharacter 39 bytes
plain_parsed bytes c r u e d = (
  (λ t. let p = d.0 t in (c, scalar_of bytes c u e, p.0, p.1, p.2, e)),
  (λ q.
      let f : encode_utf8 c ++ [] ≡ encode_utf8 q.0 ++ [] = ap (λ (t : List ℕ). t ++ []) (sym e ∙ q.5) in
      let same : c ≡ q.0 = (encode_same c q.0 [] [] f).0 in
      d.1 (subst (λ (x : ℕ). Plain x) (sym same) (q.2, q.3, q.4))),
)

pub no_plain_text : (bytes : List ℕ) → (IsUtf8 bytes → ⊥) → IsTrue false ↔ IsPlainCharacter 39 bytes
no_plain_text bytes bad = ((λ t. absurd (false≢true t)), (λ q. absurd (bad (subst (λ (t : List ℕ). IsUtf8 t) (sym q.5) (IsUtf8-encode q.0 q.1)))))

-- ---- characters at the front

module _ (bytes : List ℕ) (starts : StartsWith Quote bytes) where
  quote_first : (bs : List ℕ) → StartsWith Quote bs → (x : ℕ) (xs : List ℕ) → IsPrefix (x ∷ xs) bs → class_of x ≡ Quote
  quote_first [] s x xs p = absurd s
  quote_first (b ∷ bs) s x xs p = ap class_of p.0 ∙ s

  character_of : (o : Shape) (t : List ℕ) → HasShape o t → Begins t bytes → (o ≡ lexeme Character) × IsCharacter t
  character_of o [] h b = absurd (no_shape_nil o h)
  character_of o (x ∷ xs) h b = subst (λ (c : ByteClass). FromFirst c o (x ∷ xs)) (quote_first bytes starts x xs (prefix_from (x ∷ xs) bytes b)) (first o x xs h)

  item_begins : (t : List ℕ) (s : IsCharacter t) → Begins t bytes → Begins (s.0 ++ 39 ∷ []) (drop 1 bytes)
  item_begins t s b = (b.0, ap (drop 1) (ap (λ (u : List ℕ). u ++ b.0) (sym s.2) ∙ b.1))

  whole : (bs : List ℕ) → StartsWith Quote bs → (n : ℕ) → n + 1 < length bs → get_or bs (n + 1) 0 ≡ 39 → take (n + 2) bs ≡ 39 ∷ take n (drop 1 bs) ++ 39 ∷ []
  whole [] s n lt e = absurd s
  whole (b ∷ bs) s n lt e =
      let size : n + 2 ≡ suc (n + 1) = omega arith in
      let size' : n + 1 ≡ suc n = omega arith in
      let last : get_or bs n 0 ≡ 39 = ap (λ (m : ℕ). get_or (b ∷ bs) m 0) (sym size') ∙ e in
      let more : take (n + 1) bs ≡ take n bs ++ 39 ∷ [] = take_more bs n 0 (omega arith) ∙ ap (λ (c : ℕ). take n bs ++ c ∷ []) last in
      ap (λ (m : ℕ). take m (b ∷ bs)) size ∙ ap (λ (c : ℕ). c ∷ take (n + 1) bs) (quote_is b s) ∙ ap (λ (u : List ℕ). 39 ∷ u) more

  quote_next : (bs : List ℕ) (n : ℕ) → n < length bs → get_or bs n 0 ≡ 39 → Begins (39 ∷ []) (drop n bs)
  quote_next bs n lt e = (drop (n + 1) bs, ap (λ (c : ℕ). c ∷ drop (n + 1) bs) (sym e) ∙ sym (drop_more bs n 0 lt))

  get_tail : (bs : List ℕ) (n : ℕ) → get_or bs (n + 1) 0 ≡ get_or (drop 1 bs) n 0
  get_tail [] n = refl
  get_tail (b ∷ bs) n = let size : n + 1 ≡ suc n = omega arith in ap (λ (m : ℕ). get_or (b ∷ bs) m 0) size

  pub character_longest : (n : ℕ) → n + 1 < length bytes → get_or bytes (n + 1) 0 ≡ 39 → Found n (drop 1 bytes) → Only n (drop 1 bytes) → IsLongest (lexeme Character) (take (n + 2) bytes) bytes
  character_longest n lt e found only = record {
    has = (take n (drop 1 bytes), found (quote_next (drop 1 bytes) n (omega (arith, length-drop 1 bytes)) (sym (get_tail bytes n) ∙ e)), whole bytes starts n lt e);
    begins = begins_take (n + 2) bytes;
    longest = λ o t h b.
        let s = (character_of o t h b).1 in
        omega (arith, length-take-le (n + 2) bytes (omega arith), ap length s.2, length-append s.0 (39 ∷ []), only s.0 s.1 (item_begins t s b));
  }

  pub never_character : Never (drop 1 bytes) → NoItemBegins bytes
  never_character none = λ i t l. let s = (character_of (shape_of i) t l.has l.begins).1 in none s.0 s.1 (item_begins t s l.begins)

  quote_there : (t bs : List ℕ) → Begins (t ++ 39 ∷ []) bs → (length t < length bs) × (get_or bs (length t) 0 ≡ 39)
  quote_there t bs b = at t bs (prefix_from (t ++ 39 ∷ []) bs b)
    where
      at : (u cs : List ℕ) → IsPrefix (u ++ 39 ∷ []) cs → (length u < length cs) × (get_or cs (length u) 0 ≡ 39)
      at [] [] p = absurd p
      at [] (c ∷ cs) p = (omega arith, sym p.0)
      at (x ∷ u) [] p = absurd p
      at (x ∷ u) (c ∷ cs) p = let k = at u cs p.1 in (omega (arith, k.0), k.1)

  -- no quote follows the item
  pub unclosed_character : (n : ℕ) → Only n (drop 1 bytes) → (n + 1 < length bytes → get_or bytes (n + 1) 0 ≢ 39) → NoItemBegins bytes
  unclosed_character n only apart = never_character (λ t i b.
      let k = quote_there t (drop 1 bytes) b in
      let size : length t ≡ n = only t i b in
      apart (omega (arith, k.0, size, length-drop 1 bytes)) (get_tail bytes n ∙ ap (λ (m : ℕ). get_or (drop 1 bytes) m 0) (sym size) ∙ k.1))

  pub no_open_at_character : OpenCommentBegins bytes → ⊥
  no_open_at_character o = go bytes starts o
    where
      go : (bs : List ℕ) → StartsWith Quote bs → OpenCommentBegins bs → ⊥
      go [] s x = s
      go (b ∷ bs) s x = no_open_comment b bs (λ e. let f : Quote ≡ Special = sym s ∙ e in cc) x
