-- How many characters a text has, part by part.
use Rattle.std.proofs.Common.{◌≡◌, ℕ, ◌+◌, ◌*◌, ◌<◌, Bool, cond, List, [], ◌∷◌, ◌++◌, length, get_or, take, drop, count_by, nat_le, sym, ap, ◌∙◌, arith, inl, inr}
use Rattle.std.proofs.lemmas.Bool.{cases_lt}
use Rattle.std.proofs.lemmas.List.{get_or_append_left, get_or_push, length_push}
use Rattle.std.proofs.lemmas.List.Sums.{sum_by-append}
use Rattle.std.specs.Fmt.{is_char_start}
use Rattle.hm_messages_excerpts.specs.Columns.{characters, stride, units_of}
use Rattle.hm_messages_excerpts.specs.declared.columns.Units.{Units}
use Rattle.hm_messages_excerpts.proofs.Places.{take_add}

pub count_add : (p : ℕ → Bool) (n m : ℕ) (xs : List ℕ) → count_by p (take (n + m) xs) ≡ count_by p (take n xs) + count_by p (take m (drop n xs))
count_add p n m xs = ap (count_by p) (take_add n m xs) ∙ sum_by-append (λ x. cond (p x) 1 0) (take n xs) (take m (drop n xs))

abbrev units : ℕ → ℕ → Units
units n m = record { characters = n; wide = m }

units_same : (n n2 m m2 : ℕ) → n ≡ n2 → m ≡ m2 → units n m ≡ units n2 m2
units_same n n2 m m2 e f = ap (λ (k : ℕ). units k m) e ∙ ap (units n2) f

pub units_more : (source : List ℕ) (n m : ℕ) (a b c : Units) → a ≡ units_of (take n source) → b ≡ units_of (take m (drop n source)) → c.characters ≡ a.characters + b.characters → c.wide ≡ a.wide + b.wide
    → c ≡ units_of (take (n + m) source)
units_more source n m a b c first later characters_are wide_are =
    units_same c.characters (characters (take (n + m) source)) c.wide (count_by (nat_le 0xF0) (take (n + m) source))
    (characters_are ∙ ap (λ (u : Units). u.characters + b.characters) first ∙ ap (λ (u : Units). characters (take n source) + u.characters) later ∙ sym (count_add is_char_start n m source))
    (wide_are ∙ ap (λ (u : Units). u.wide + b.wide) first ∙ ap (λ (u : Units). count_by (nat_le 0xF0) (take n source) + u.wide) later ∙ sym (count_add (nat_le 0xF0) n m source))

pub characters_part : (source : List ℕ) (start offset : ℕ) (before here : Units) → before ≡ units_of (take start source) → here ≡ units_of (take (start + offset) source)
    → here.characters ≡ before.characters + characters (take offset (drop start source))
characters_part source start offset before here first later =
    ap (λ (u : Units). u.characters) later ∙ count_add is_char_start start offset source ∙ ap (λ (u : Units). u.characters + characters (take offset (drop start source))) (sym first)

pub wide_part : (source : List ℕ) (start offset : ℕ) (before here : Units) → before ≡ units_of (take start source) → here ≡ units_of (take (start + offset) source)
    → here.wide ≡ before.wide + count_by (nat_le 0xF0) (take offset (drop start source))
wide_part source start offset before here first later =
    ap (λ (u : Units). u.wide) later ∙ count_add (nat_le 0xF0) start offset source ∙ ap (λ (u : Units). u.wide + count_by (nat_le 0xF0) (take offset (drop start source))) (sym first)

-- one more row of the table
pub rows_more : (source : List ℕ) (table news : List Units) (sum : Units) (row : ℕ) → length table ≡ row → ((k : ℕ) (d : Units) → k < length table → get_or table k d ≡ units_of (take (k * stride) source))
    → sum ≡ units_of (take (row * stride) source) → news ≡ table ++ sum ∷ [] → (k : ℕ) (d : Units) → k < length news → get_or news k d ≡ units_of (take (k * stride) source)
rows_more source table news sum row many each sum_is pushed k d low =
    let long : length news ≡ length table + 1 = ap length pushed ∙ length_push table sum in
    elim (cases_lt k (length table)) [
      | inl before ↦ ap (λ (l : List Units). get_or l k d) pushed ∙ get_or_append_left table (sum ∷ []) d k before ∙ each k d before
      | inr behind ↦ let same : length table ≡ k = omega (arith, behind, low, long) in
          ap (λ (l : List Units). get_or l k d) pushed ∙ get_or_push table sum d k same ∙ sum_is ∙ ap (λ (n : ℕ). units_of (take (n * stride) source)) (sym many ∙ same)
    ]
