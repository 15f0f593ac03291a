-- The scan over the items of a string.
use Rattle.std.proofs.Common.{◌≡◌, ◌≢◌, ℕ, suc, ◌+◌, ◌<◌, ◌≤◌, List, [], ◌∷◌, ◌++◌, length, get_or, take, drop, Some, None, refl, sym, ap, ◌∙◌, subst, arith, append_assoc, length-append, length-take-le, length-drop}
use Rattle.std.proofs.lemmas.List.{drop_more, drop-drop, take_more, take_at}
use Rattle.std.proofs.lemmas.Str.{encode_ascii, IsUtf8-past_char, IsUtf8-encode, IsUtf8-append}
use Rattle.hm_lex.specs.Quotes.{IsString}
use Rattle.hm_lex.specs.Shapes.{Shape, lexeme, HasShape}
use Rattle.std.specs.Str.{IsUtf8}
use Rattle.hm_lex.specs.declared.byte_class.ByteClass.{ByteClass}
use Rattle.hm_lex.specs.declared.byte_class.ByteClass.TheVariants.{DoubleQuote, Special}
use Rattle.hm_lex.specs.declared.token.Kind.TheVariants.{Str}
use Rattle.hm_lex.specs.Bytes.{class_of}
use Rattle.hm_lex.specs.Faults.{NoItemBegins, OpenCommentBegins}
use Rattle.hm_lex.specs.Next.{StartsWith}
use Rattle.hm_lex.proofs.ByFirst.{FromFirst, first, no_shape_nil}
use Rattle.hm_lex.proofs.Malformed.{no_open_comment}
use Rattle.hm_lex.specs.Cut.{Begins, IsLongest, shape_of}
use Rattle.hm_lex.specs.Quoting.{string_item_len, IsByteRest, byte_ends, byte_item}
use Rattle.hm_lex.proofs.Prefix.{IsPrefix, prefix_from, prefix_after, prefix_length, prefix_join, begins_take}
use Rattle.hm_lex.proofs.NameRuns.{take_on}
use Rattle.hm_lex.proofs.Bytewise.{to_bytes, from_bytes}
use Rattle.hm_lex.proofs.Escapes.{item_sound, item_complete, no_item_at_quote}
use Rattle.hm_lex.proofs.Digits.{double_quote_is}

pub record Reached (bytes : List ℕ) (at : ℕ) (u : List ℕ) : Type 0 where
  pub tail : List ℕ
  pub is_rest : IsByteRest tail
  pub begins : IsPrefix tail (drop at bytes)
  pub size : length u ≡ at + length tail

pub record IsStringScan (bytes : List ℕ) (at : ℕ) : Type 0 where
  pub within : at ≤ length bytes
  pub forward : (t : List ℕ) → IsByteRest t → IsPrefix t (drop at bytes) → IsByteRest (take at bytes ++ t)
  pub backward : (u : List ℕ) → IsByteRest u → IsPrefix u bytes → Reached bytes at u

rest_positive : (t : List ℕ) → IsByteRest t → 0 < length t
rest_positive [] (byte_ends e) = absurd cc
rest_positive [] (byte_item first rest i r e) = absurd (let k = rest_positive rest r in omega (arith, k, ap length e, length-append first rest))
rest_positive (x ∷ xs) r = omega arith

-- past an item
past_item : (bytes : List ℕ) (at n : ℕ) (t : List ℕ) → get_or bytes at 0 ≢ 34 → at < length bytes → string_item_len (drop at bytes) ≡ Some n → IsByteRest t → IsPrefix t (drop at bytes) → (r : List ℕ) × IsByteRest r × IsPrefix r (drop (at + n) bytes) × (length t ≡ n + length r)
past_item bytes at n t no_quote lt e (byte_ends f) p = absurd (first_is (subst (λ (u : List ℕ). IsPrefix u (drop at bytes)) f p))
  where
    first_is : IsPrefix (34 ∷ []) (drop at bytes) → ⊥
    first_is q = no_quote (sym (subst (λ (u : List ℕ). IsPrefix (34 ∷ []) u) (drop_more bytes at 0 lt) q).0)
past_item bytes at n t no_quote lt e (byte_item first rest i r f) p =
    let p' : IsPrefix (first ++ rest) (drop at bytes) = subst (λ (u : List ℕ). IsPrefix u (drop at bytes)) f p in
    let k = item_complete (drop at bytes) first rest i (rest_positive rest r) p' in
    let same : length first ≡ n = (let g : Some (length first) ≡ Some n = sym k ∙ e in cc) in
    let after : IsPrefix rest (drop n (drop at bytes)) = subst (λ (m : ℕ). IsPrefix rest (drop m (drop at bytes))) same (prefix_after first rest (drop at bytes) p') in
    (rest, r, subst (λ (u : List ℕ). IsPrefix rest u) (drop-drop n at bytes) after, omega (arith, ap length f, length-append first rest, same))

prefix_join_take : (n : ℕ) (bytes t : List ℕ) → n ≤ length bytes → IsPrefix t (drop n bytes) → IsPrefix (take n bytes ++ t) bytes
prefix_join_take n bytes t le p =
    prefix_join (take n bytes) t bytes (prefix_from (take n bytes) bytes (begins_take n bytes)) (subst (λ (k : ℕ). IsPrefix t (drop k bytes)) (sym (length-take-le n bytes le)) p)

pub string_on : (bytes : List ℕ) (at n : ℕ) → IsStringScan bytes at → at < length bytes → get_or bytes at 0 ≢ 34 → string_item_len (drop at bytes) ≡ Some n → n ≤ length (drop at bytes) → IsStringScan bytes (at + n)
string_on bytes at n s lt no_quote e le = record {
  within = omega (arith, le, length-drop at bytes);
  forward = λ t r p.
      let here : IsPrefix t (drop n (drop at bytes)) = subst (λ (u : List ℕ). IsPrefix t u) (sym (drop-drop n at bytes)) p in
      let i = item_sound (drop at bytes) t n e (rest_positive t r) here in
      let whole : IsByteRest (take n (drop at bytes) ++ t) = byte_item (take n (drop at bytes)) t i r refl in
      subst (λ (u : List ℕ). IsByteRest u) (sym (append_assoc (take at bytes) (take n (drop at bytes)) t) ∙ ap (λ (u : List ℕ). u ++ t) (sym (take_on at n bytes))) (s.forward (take n (drop at bytes) ++ t) whole (prefix_join_take n (drop at bytes) t le here));
  backward = λ u r p.
      let b = s.backward u r p in
      let k = past_item bytes at n b.tail no_quote lt e b.is_rest b.begins in
      record { tail = k.0; is_rest = k.1; begins = k.2; size = omega (arith, b.size, k.3) };
}

pub string_found : (bytes : List ℕ) (at : ℕ) → IsStringScan bytes at → at < length bytes → get_or bytes at 0 ≡ 34 → IsByteRest (take (at + 1) bytes)
string_found bytes at s lt e =
    let q : IsPrefix (34 ∷ []) (drop at bytes) = subst (λ (u : List ℕ). IsPrefix (34 ∷ []) u) (sym (drop_more bytes at 0 lt)) (sym e, tt) in
    subst (λ (u : List ℕ). IsByteRest u) (ap (λ (b : ℕ). take at bytes ++ b ∷ []) (sym e) ∙ sym (take_more bytes at 0 lt)) (s.forward (34 ∷ []) (byte_ends refl) q)

-- the one length of the rest of a string
pub string_only : (bytes : List ℕ) (at : ℕ) → IsStringScan bytes at → at < length bytes → get_or bytes at 0 ≡ 34 → (t : List ℕ) → IsByteRest t → Begins t bytes → length t ≡ at + 1
string_only bytes at s lt e t r b =
    let k = s.backward t r (prefix_from t bytes b) in
    let one : length k.tail ≡ 1 = at_quote k.tail k.is_rest (subst (λ (u : List ℕ). IsPrefix k.tail u) (drop_more bytes at 0 lt ∙ ap (λ (x : ℕ). x ∷ drop (at + 1) bytes) e) k.begins) in
    omega (arith, k.size, one)
  where
    at_quote : (u : List ℕ) → IsByteRest u → IsPrefix u (34 ∷ drop (at + 1) bytes) → length u ≡ 1
    at_quote u (byte_ends f) p = ap length f
    at_quote u (byte_item first rest i q f) p =
        let m = item_complete (34 ∷ drop (at + 1) bytes) first rest i (rest_positive rest q) (subst (λ (v : List ℕ). IsPrefix v (34 ∷ drop (at + 1) bytes)) f p) in
        absurd (let g : None ≡ Some (length first) = sym (no_item_at_quote (drop (at + 1) bytes)) ∙ m in cc)

-- where no item begins, or the bytes end, no string does
pub string_none : (bytes : List ℕ) (at : ℕ) → IsStringScan bytes at → at < length bytes → get_or bytes at 0 ≢ 34 → string_item_len (drop at bytes) ≡ None → (t : List ℕ) → IsByteRest t → Begins t bytes → ⊥
string_none bytes at s lt no_quote e t r b =
    let k = s.backward t r (prefix_from t bytes b) in
    no_rest k.tail k.is_rest k.begins
  where
    no_rest : (u : List ℕ) → IsByteRest u → IsPrefix u (drop at bytes) → ⊥
    no_rest u (byte_ends f) p = no_quote (sym (subst (λ (v : List ℕ). IsPrefix (34 ∷ []) v) (drop_more bytes at 0 lt) (subst (λ (v : List ℕ). IsPrefix v (drop at bytes)) f p)).0)
    no_rest u (byte_item first rest i q f) p =
        let m = item_complete (drop at bytes) first rest i (rest_positive rest q) (subst (λ (v : List ℕ). IsPrefix v (drop at bytes)) f p) in
        let g : None ≡ Some (length first) = sym e ∙ m in cc

pub string_end : (bytes : List ℕ) (at : ℕ) → IsStringScan bytes at → length bytes ≤ at → (t : List ℕ) → IsByteRest t → Begins t bytes → ⊥
string_end bytes at s le t r b =
    let k = s.backward t r (prefix_from t bytes b) in
    let some = rest_positive k.tail k.is_rest in
    omega (arith, some, prefix_length k.tail (drop at bytes) k.begins, length-drop at bytes)

-- ---- strings at the front

unquoted_utf8 : (rest : List ℕ) → IsUtf8 (34 ∷ rest) → IsUtf8 rest
unquoted_utf8 rest u = IsUtf8-past_char (34 ∷ rest) rest 34 u (ap (λ (q : List ℕ). q ++ rest) (sym (encode_ascii 34 (omega arith))))

quoted_utf8 : (rest : List ℕ) → IsUtf8 rest → IsUtf8 (34 ∷ rest)
quoted_utf8 rest u = IsUtf8-append (34 ∷ []) rest (subst (λ (q : List ℕ). IsUtf8 q) (encode_ascii 34 (omega arith)) (IsUtf8-encode 34 refl)) u

module _ (bytes : List ℕ) (starts : StartsWith DoubleQuote bytes) where
  quote_first : (bs : List ℕ) → StartsWith DoubleQuote bs → (x : ℕ) (xs : List ℕ) → IsPrefix (x ∷ xs) bs → class_of x ≡ DoubleQuote
  quote_first [] s x xs p = absurd s
  quote_first (b ∷ bs) s x xs p = ap class_of p.0 ∙ s

  string_of : (o : Shape) (t : List ℕ) → HasShape o t → Begins t bytes → (o ≡ lexeme Str) × IsString t
  string_of o [] h b = absurd (no_shape_nil o h)
  string_of o (x ∷ xs) h b = subst (λ (c : ByteClass). FromFirst c o (x ∷ xs)) (quote_first bytes starts x xs (prefix_from (x ∷ xs) bytes b)) (first o x xs h)

  rest_begins : (t : List ℕ) (s : IsString t) → Begins t bytes → Begins s.0 (drop 1 bytes)
  rest_begins t s b = (b.0, ap (drop 1) (ap (λ (u : List ℕ). u ++ b.0) (sym s.2) ∙ b.1))

  quote_byte : (bs : List ℕ) → StartsWith DoubleQuote bs → (n : ℕ) → take (n + 1) bs ≡ 34 ∷ take n (drop 1 bs)
  quote_byte [] s n = absurd s
  quote_byte (b ∷ bs) s n = ap (λ (k : ℕ). take k (b ∷ bs)) (let e : n + 1 ≡ suc n = omega arith in e) ∙ ap (λ (x : ℕ). x ∷ take n bs) (double_quote_is b s)

  pub string_longest : (n : ℕ) → n + 1 ≤ length bytes → IsByteRest (take n (drop 1 bytes)) → ((t : List ℕ) → IsByteRest t → Begins t (drop 1 bytes) → length t ≡ n) → IsUtf8 (take (n + 1) bytes) → IsLongest (lexeme Str) (take (n + 1) bytes) bytes
  string_longest n le found only utf8 = record {
    has = (take n (drop 1 bytes), from_bytes (take n (drop 1 bytes)) found (unquoted_utf8 (take n (drop 1 bytes)) (subst (λ (u : List ℕ). IsUtf8 u) (quote_byte bytes starts n) utf8)), quote_byte bytes starts n);
    begins = begins_take (n + 1) bytes;
    longest = λ o t h b. let s = (string_of o t h b).1 in omega (arith, length-take-le (n + 1) bytes le, ap length s.2, only s.0 (to_bytes s.0 s.1).0 (rest_begins t s b));
  }

  pub no_string : (n : ℕ) → ((t : List ℕ) → IsByteRest t → Begins t (drop 1 bytes) → length t ≡ n) → (IsUtf8 (take (n + 1) bytes) → ⊥) → NoItemBegins bytes
  no_string n only bad = λ i t l.
      let s = (string_of (shape_of i) t l.has l.begins).1 in
      let size : length t ≡ n + 1 = omega (arith, ap length s.2, only s.0 (to_bytes s.0 s.1).0 (rest_begins t s l.begins)) in
      bad (subst (λ (u : List ℕ). IsUtf8 u) (sym (ap (take (n + 1)) (sym l.begins.1) ∙ take_at t l.begins.0 (n + 1) size)) (subst (λ (u : List ℕ). IsUtf8 u) (sym s.2) (quoted_utf8 s.0 (to_bytes s.0 s.1).1)))

  pub never_string : ((t : List ℕ) → IsByteRest t → Begins t (drop 1 bytes) → ⊥) → NoItemBegins bytes
  never_string none = λ i t l. let s = (string_of (shape_of i) t l.has l.begins).1 in none s.0 (to_bytes s.0 s.1).0 (rest_begins t s l.begins)

  pub no_open_at_quote : OpenCommentBegins bytes → ⊥
  no_open_at_quote o = go bytes starts o
    where
      go : (bs : List ℕ) → StartsWith DoubleQuote bs → OpenCommentBegins bs → ⊥
      go [] s x = s
      go (b ∷ bs) s x = no_open_comment b bs (λ e. let f : DoubleQuote ≡ Special = sym s ∙ e in cc) x

pub quote_positive : (bytes : List ℕ) → StartsWith DoubleQuote bytes → 0 < length bytes
quote_positive [] s = absurd s
quote_positive (b ∷ bs) s = omega arith
