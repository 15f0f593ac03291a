use Rattle.std.proofs.Common.{◌≡◌, ℕ, ◌<◌, ◌≤◌, List, [], ◌∷◌, ◌++◌, length, length-append, get_or, drop, subst, true, false, Option, None, refl, sym, ap, ◌∙◌, inl, inr, ⊎_elim, arith}
use Rattle.std.specs.Prelude.{codes, encode_utf8}
use Rattle.std.specs.Char.{IsScalar}
use Rattle.hm_lex.specs.Bytes.{class_of, is_digit, is_one_of}
use Rattle.hm_lex.specs.Runs.{IsRunOf}
use Rattle.hm_lex.specs.Names.{is_reserved}
use Rattle.hm_lex.specs.Symbols.{is_operator}
use Rattle.hm_lex.specs.Comments.{closes, nested}
use Rattle.hm_lex.specs.Quotes.{IsString, item, ends, IsCharacter, IsStringItem, IsCharacterItem, IsSimpleEscape}
use Rattle.std.proofs.lemmas.Bool.{false≢true}
use Rattle.std.specs.Str.{IsUtf8, is_utf8, chars}
use Rattle.std.proofs.lemmas.Str.{encode_ascii, char_from_byte, is_utf8-from_IsUtf8}
use Rattle.hm_lex.specs.Quoting.{escape_len, numeric_len}
use Rattle.hm_lex.specs.Cut.{Begins}
use lib.Utf8.{encode}
use Rattle.hm_lex.proofs.Bytewise.{to_bytes}
use Rattle.hm_lex.proofs.OneCharacter.{never_escape, plain_here}
use Rattle.std.proofs.lemmas.List.{append-nil, append_cancel_right}
use Rattle.hm_lex.specs.Nesting.{close_len, plus}
use Rattle.hm_lex.proofs.Prefix.{prefix_from}
use Rattle.hm_lex.proofs.NestedComments.{unclosed}
use Rattle.hm_lex.specs.Examples.{Worked}

plain_item : (c : ℕ) (rest : List ℕ) → IsScalar c → 32 ≤ c → c < 128 → (c ≡ 34 → ⊥) → (c ≡ 92 → ⊥) → IsStringItem (c ∷ []) rest
plain_item c rest s l lt a b = inl (inl (c, s, l, a, b, sym (encode_ascii c lt)))

simple_escape_38 : (text : List ℕ) → IsSimpleEscape text → text ≡ 92 ∷ 38 ∷ [] → ⊥
simple_escape_38 text (b, t, e) f = let same : b ≡ 38 = cc in false≢true (ap (λ (x : ℕ). is_one_of (codes "abfnrtv\\\"'") x) (sym same) ∙ t)

decimal_38 : (ds : List ℕ) → IsRunOf is_digit ds → 92 ∷ ds ≡ 92 ∷ 38 ∷ [] → ⊥
unfolding class_of
decimal_38 [] run e = run
decimal_38 (d ∷ ds) run e = let same : d ≡ 38 = cc in false≢true (ap is_digit (sym same) ∙ run.0)

other_38 : (m : ℕ) (ds : List ℕ) → (m ≡ 38 → ⊥) → 92 ∷ m ∷ ds ≡ 92 ∷ 38 ∷ [] → ⊥
other_38 m ds n e = let same : m ≡ 38 = cc in n same

no_ampersand_item : (text : List ℕ) → IsCharacterItem 39 text (39 ∷ []) → text ≡ 92 ∷ 38 ∷ [] → ⊥
no_ampersand_item text (inl (c, _, _, _, b, e)) f = b (char_from_byte (92 ∷ 38 ∷ []) [] c (sym f ∙ e ∙ sym (append-nil (encode_utf8 c))) (omega arith) (omega arith))
no_ampersand_item text (inr (inl h)) f = simple_escape_38 text h f
no_ampersand_item text (inr (inr (inl h))) f = decimal_38 h.0 h.1 (sym h.4 ∙ f)
no_ampersand_item text (inr (inr (inr (inl h)))) f = other_38 111 h.0 (λ e. omega arith) (sym h.4 ∙ f)
no_ampersand_item text (inr (inr (inr (inr h)))) f = other_38 120 h.0 (λ e. omega arith) (sym h.4 ∙ f)

no_ampersand_parts : (i : List ℕ) → 39 ∷ 92 ∷ 38 ∷ 39 ∷ [] ≡ 39 ∷ i ++ 39 ∷ [] → i ≡ 92 ∷ 38 ∷ []
no_ampersand_parts i e = let f : (92 ∷ 38 ∷ []) ++ 39 ∷ [] ≡ i ++ 39 ∷ [] = cc in sym (append_cancel_right (92 ∷ 38 ∷ []) i (39 ∷ []) f)

half_test : is_utf8 (195 ∷ 34 ∷ []) ≡ false
unfolding is_utf8 chars encode
half_test = refl

not_closed : ◌≡◌ {A = Option ℕ} None (plus 2 (close_len 1 (drop 2 (codes "{-}-"))))
unfolding close_len
not_closed = refl

too_great_len : ◌≡◌ {A = Option ℕ} (escape_len (drop 1 (codes "\\1114112'"))) None
unfolding class_of escape_len numeric_len
too_great_len = refl

item_from : (bytes : List ℕ) (c : IsCharacter (39 ∷ bytes)) → Begins (c.0 ++ 39 ∷ []) bytes
item_from bytes c = ([], append-nil (c.0 ++ 39 ∷ []) ∙ ap (drop 1) (sym c.2))

no_character_from : (bytes : List ℕ) → get_or bytes 0 0 ≡ 92 → escape_len (drop 1 bytes) ≡ None → IsCharacter (39 ∷ bytes) → ⊥
no_character_from bytes f e c = never_escape bytes f e c.0 c.1 (item_from bytes c)

two_here : IsCharacter (codes "'ab'") → ⊥
two_here c =
    let bytes : List ℕ = codes "ab'" in
    let p = plain_here bytes c.0 (λ e. omega arith) c.1 (item_from bytes c) in
    let same : p.0 ≡ 97 = char_from_byte bytes (39 ∷ []) p.0 (ap (drop 1) c.2 ∙ ap (λ (t : List ℕ). t ++ 39 ∷ []) p.5) (omega arith) (omega arith) in
    let one : c.0 ≡ 97 ∷ [] = p.5 ∙ ap encode_utf8 same ∙ encode_ascii 97 (omega arith) in
    omega (arith, ap length c.2, ap length one, length-append c.0 (39 ∷ []))

half_here : IsString (34 ∷ 195 ∷ 34 ∷ []) → ⊥
half_here s =
    let u = (to_bytes s.0 s.1).1 in
    let e : is_utf8 (195 ∷ 34 ∷ []) ≡ true = is_utf8-from_IsUtf8 (195 ∷ 34 ∷ []) (subst (λ (t : List ℕ). IsUtf8 t) (ap (drop 1) (sym s.2)) u) in
    false≢true (sym half_test ∙ e)

pub worked : Worked
unfolding class_of is_reserved is_operator encode
worked = record {
  qualified_variable = ((65 ∷ []) ∷ (66 ∷ []) ∷ [], 120 ∷ [], omega arith, ((refl, tt), ((refl, tt), tt)), ((refl, tt), refl), refl);
  qualified_word = inr (inr (inl ((65 ∷ []) ∷ [], codes "where", omega arith, ((refl, tt), tt), ((refl, (refl, (refl, (refl, (refl, tt))))), refl), refl)));
  word_within_name = ((refl, (refl, (refl, (refl, (refl, (refl, tt)))))), refl);
  fraction = inr (inl (49 ∷ [], 46 ∷ 53 ∷ [], (refl, tt), inl (53, refl, refl), refl));
  exponent = inr (inl (49 ∷ [], 101 ∷ 45 ∷ 53 ∷ [], (refl, tt), inr (101, 45 ∷ [], 53, refl, inr (inr refl), refl, refl), refl));
  strange_run = inl ((refl, (refl, tt)), refl, λ d. let e = d.0.0 in cc);
  arrow_of_dashes = inl ((refl, (refl, (refl, tt))), refl, λ d. let e = d.0.1.1.0 in cc);
  dashes = (45 ∷ 45 ∷ 45 ∷ [], 120 ∷ [], ((refl, (refl, (refl, tt))), omega arith), refl, ((λ e. omega arith), tt), refl);
  nested = (codes "{--}-}", nested (codes "-}") (codes "-}") (closes refl) (closes refl) refl, refl);
  never_closed = λ text c b. unclosed (codes "{-}-") not_closed text c (prefix_from text (codes "{-}-") b);
  string = (
    codes "a\\ \\b\\&c\"",
    item (codes "a") (codes "\\ \\b\\&c\"") (plain_item 97 (codes "\\ \\b\\&c\"") refl (omega arith) (omega arith) (λ e. omega arith) (λ e. omega arith))
        (item (codes "\\ \\") (codes "b\\&c\"") (inr (inr (32 ∷ [], (refl, tt), refl)))
        (item (codes "b") (codes "\\&c\"") (plain_item 98 (codes "\\&c\"") refl (omega arith) (omega arith) (λ e. omega arith) (λ e. omega arith))
        (item (codes "\\&") (codes "c\"") (inr (inl refl))
        (item (codes "c") (codes "\"") (plain_item 99 (codes "\"") refl (omega arith) (omega arith) (λ e. omega arith) (λ e. omega arith)) (ends refl) refl) refl) refl) refl) refl,
    refl,
  );
  newline = (codes "\\n", inr (inl (110, refl, refl)), refl);
  numbered = (codes "\\x41", inr (inr (inr (inr (codes "41", (refl, (refl, tt)), refl, omega arith, refl)))), refl);
  greatest = (codes "\\1114111", inr (inr (inl (codes "1114111", (refl, (refl, (refl, (refl, (refl, (refl, (refl, tt))))))), refl, omega arith, refl))), refl);
  too_great = λ c. no_character_from (codes "\\1114112'") refl too_great_len c;
  wide = (195 ∷ 188 ∷ [], inl (252, refl, omega arith, (λ e. omega arith), (λ e. omega arith), refl), refl);
  no_two = λ c. two_here c;
  half_wide = λ s. half_here s;
  next_line = inl (omega arith);
  same_place = λ b. ⊎_elim (λ l. omega (arith, l)) (λ e. omega (arith, e.1)) b;
  no_ampersand = λ c. no_ampersand_item c.0 c.1 (no_ampersand_parts c.0 c.2);
}
