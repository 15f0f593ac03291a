-- Runs of symbols and line comments, at the front of some bytes.
use Rattle.std.proofs.Common.{◌≡◌, ◌≢◌, ℕ, zero, suc, ◌-◌, ◌<◌, ◌≤◌, Bool, true, false, eqb, leb, List, [], ◌∷◌, ◌++◌, length, take, drop, refl, sym, ap, ◌∙◌, subst, inl, inr, arith, length-take-le}
use Rattle.std.specs.Prelude.{IsTrue, ◌&&◌, not}
use Rattle.std.specs.List.{AllByRecursion, prefix_len, list_all}
use Rattle.std.proofs.lemmas.List.{append-nil, take_all}
use Rattle.std.proofs.lemmas.Bool.{eqb-true, leb-true, le-leb, false≢true}
use Rattle.hm_lex.specs.declared.byte_class.ByteClass.{ByteClass}
use Rattle.hm_lex.specs.declared.byte_class.ByteClass.TheVariants.{Symbol, Special}
use Rattle.hm_lex.specs.declared.token.Kind.TheVariants.{Op}
use Rattle.hm_lex.specs.Bytes.{class_of, is_symbol, is_symbol_class}
use Rattle.hm_lex.specs.Runs.{IsRunOf, FirstFails}
use Rattle.hm_lex.specs.Symbols.{is_dash, is_operator, IsDashes}
use Rattle.hm_lex.specs.Comments.{IsLineComment}
use Rattle.hm_lex.specs.Shapes.{Shape, lexeme, malformed, HasShape}
use Rattle.hm_lex.specs.Cut.{Begins, IsLongest}
use Rattle.hm_lex.specs.Next.{StartsWith, are_dashes, is_within_line}
use Rattle.hm_lex.proofs.Prefix.{IsPrefix, prefix_from, begins_take, run_passes, run_bound, run_whole, run_stops, run_le, run_begins, prefix_front}
use Rattle.hm_lex.specs.Faults.{OpenCommentBegins}
use Rattle.hm_lex.proofs.Malformed.{no_open_comment}
use Rattle.hm_lex.proofs.ByFirst.{FromFirst, first, class_dash}
use Rattle.hm_lex.proofs.OneShape.{all_of}

-- ---- dashes

all_dashes : (t : List ℕ) → list_all is_dash t ≡ true → AllByRecursion (λ b. IsTrue (is_dash b)) t
all_dashes [] e = tt
all_dashes (b ∷ bs) e = go b bs (is_dash b) refl e (all_dashes bs)
  where
    go : (c : ℕ) (cs : List ℕ) (x : Bool) → is_dash c ≡ x → (is_dash c && list_all is_dash cs) ≡ true → (list_all is_dash cs ≡ true → AllByRecursion (λ d. IsTrue (is_dash d)) cs) → AllByRecursion (λ d. IsTrue (is_dash d)) (c ∷ cs)
    go c cs true h e' rest = (h, rest (sym (ap (λ (y : Bool). y && list_all is_dash cs) h) ∙ e'))
    go c cs false h e' rest = absurd (false≢true (sym (ap (λ (y : Bool). y && list_all is_dash cs) h) ∙ e'))

dashes_all : (t : List ℕ) → AllByRecursion (λ b. IsTrue (is_dash b)) t → list_all is_dash t ≡ true
dashes_all [] a = refl
dashes_all (b ∷ bs) a = rw (a.0, dashes_all bs a.1) refl

and_parts : (x y : Bool) → (x && y) ≡ true → (x ≡ true) × (y ≡ true)
and_parts true y e = (refl, e)
and_parts false y e = absurd (false≢true e)

run_from_all : (test : ℕ → Bool) (t : List ℕ) → 0 < length t → AllByRecursion (λ b. IsTrue (test b)) t → IsRunOf test t
run_from_all test [] n a = absurd (omega arith)
run_from_all test (b ∷ bs) n a = a

pub dashes_from : (t : List ℕ) → are_dashes t ≡ true → IsDashes t
dashes_from t e =
    let parts = and_parts (leb 2 (length t)) (list_all is_dash t) e in
    let long : 2 ≤ length t = leb-true 2 (length t) parts.0 in
    (run_from_all is_dash t (omega arith) (all_dashes t parts.1), long)

pub dashes_to : (t : List ℕ) → IsDashes t → are_dashes t ≡ true
dashes_to t d = rw (le-leb 2 (length t) d.1, dashes_all t (all_of is_dash t d.0)) refl

dash_is_symbol : (b : ℕ) → is_dash b ≡ true → is_symbol b ≡ true
dash_is_symbol b e = ap is_symbol_class (ap class_of (eqb-true b 45 e) ∙ class_dash)

dash_within_line : (b : ℕ) → is_dash b ≡ true → is_within_line b ≡ true
dash_within_line b e = ap is_within_line (eqb-true b 45 e)

symbol_within_line : (b : ℕ) → is_symbol b ≡ true → is_within_line b ≡ true
unfolding class_of
symbol_within_line b e = go (eqb b 10) refl
  where
    go : (x : Bool) → eqb b 10 ≡ x → not (eqb b 10) ≡ true
    go true h = absurd (false≢true (sym (ap is_symbol (eqb-true b 10 h)) ∙ e))
    go false h = ap not h

weaken : (test other : ℕ → Bool) → ((b : ℕ) → test b ≡ true → other b ≡ true) → (t : List ℕ) → AllByRecursion (λ b. IsTrue (test b)) t → AllByRecursion (λ b. IsTrue (other b)) t
weaken test other imply [] a = tt
weaken test other imply (b ∷ bs) a = (imply b a.0, weaken test other imply bs a.1)

not_ten : (b : ℕ) → b ≢ 10 → is_within_line b ≡ true
not_ten b n = go (eqb b 10) refl
  where
    go : (x : Bool) → eqb b 10 ≡ x → not (eqb b 10) ≡ true
    go true h = absurd (n (eqb-true b 10 h))
    go false h = ap not h

ten_not : (b : ℕ) → is_within_line b ≡ true → b ≢ 10
ten_not b e h = false≢true (sym (ap is_within_line h) ∙ e)

line_within : (t : List ℕ) → AllByRecursion (λ b. b ≢ 10) t → AllByRecursion (λ b. IsTrue (is_within_line b)) t
line_within [] a = tt
line_within (b ∷ bs) a = (not_ten b a.0, line_within bs a.1)

within_line : (t : List ℕ) → AllByRecursion (λ b. IsTrue (is_within_line b)) t → AllByRecursion (λ b. b ≢ 10) t
within_line [] a = tt
within_line (b ∷ bs) a = (ten_not b a.0, within_line bs a.1)

all_append : (test : ℕ → Bool) (t u : List ℕ) → AllByRecursion (λ b. IsTrue (test b)) t → AllByRecursion (λ b. IsTrue (test b)) u → AllByRecursion (λ b. IsTrue (test b)) (t ++ u)
all_append test [] u a b = b
all_append test (x ∷ xs) u a b = (a.0, all_append test xs u a.1 b)

comment_within : (t : List ℕ) → IsLineComment t → AllByRecursion (λ b. IsTrue (is_within_line b)) t
comment_within t c =
    subst (λ (u : List ℕ). AllByRecursion (λ b. IsTrue (is_within_line b)) u) (sym c.5)
    (all_append is_within_line c.0 c.1 (weaken is_dash is_within_line dash_within_line c.0 (all_of is_dash c.0 c.2.0)) (line_within c.1 c.4))

-- ---- what begins with a symbol

starts_symbol : (bytes : List ℕ) (x : ℕ) (xs : List ℕ) → StartsWith Symbol bytes → IsPrefix (x ∷ xs) bytes → class_of x ≡ Symbol
starts_symbol [] x xs s p = absurd s
starts_symbol (b ∷ bs) x xs s p = ap class_of p.0 ∙ s

candidate : (bytes : List ℕ) (k : ℕ) (o : Shape) (t : List ℕ) → StartsWith Symbol bytes
    → ((u : List ℕ) → IsRunOf is_symbol u → IsPrefix u bytes → length u ≤ k) → ((u : List ℕ) → IsLineComment u → IsPrefix u bytes → length u ≤ k)
    → HasShape o t → Begins t bytes → length t ≤ k
candidate bytes k o [] s runs comments h b = omega arith
candidate bytes k o (x ∷ xs) s runs comments h b =
    let p = prefix_from (x ∷ xs) bytes b in
    let form : FromFirst Symbol o (x ∷ xs) = subst (λ (c : ByteClass). FromFirst c o (x ∷ xs)) (starts_symbol bytes x xs s p) (first o x xs h) in
    elim form [ inl run ↦ runs (x ∷ xs) run.0 p | inr remark ↦ comments (x ∷ xs) remark.0 p ]

symbol_run : (bytes : List ℕ) → StartsWith Symbol bytes → IsRunOf is_symbol (take (prefix_len is_symbol bytes) bytes)
symbol_run [] s = absurd s
symbol_run (b ∷ bs) s = run_begins is_symbol b bs (ap is_symbol_class s)

prefix_from_take : (t bs : List ℕ) → IsPrefix t bs → t ≡ take (length t) bs
prefix_from_take [] bs q = refl
prefix_from_take (y ∷ ys) [] q = absurd q
prefix_from_take (y ∷ ys) (z ∷ zs) q = let tails : ys ≡ take (length ys) zs = prefix_from_take ys zs q.1 in let heads : y ≡ z = q.0 in cc

-- a line comment is no longer than the run, where the run is no dashes
comment_in_run : (bytes : List ℕ) → are_dashes (take (prefix_len is_symbol bytes) bytes) ≡ false → (u : List ℕ) → IsLineComment u → IsPrefix u bytes → length u ≤ prefix_len is_symbol bytes
comment_in_run bytes none u c p = go c.1 c.3 c.5
  where
    dashes : AllByRecursion (λ b. IsTrue (is_symbol b)) c.0
    dashes = weaken is_dash is_symbol dash_is_symbol c.0 (all_of is_dash c.0 c.2.0)

    go : (line : List ℕ) → FirstFails is_symbol line → u ≡ c.0 ++ line → length u ≤ prefix_len is_symbol bytes
    go [] f e =
        let same : u ≡ c.0 = e ∙ append-nil c.0 in
        run_bound is_symbol u bytes (subst (λ (v : List ℕ). AllByRecursion (λ b. IsTrue (is_symbol b)) v) (sym same) dashes) p
    go (x ∷ line) f e =
        let p' : IsPrefix (c.0 ++ x ∷ line) bytes = subst (λ (v : List ℕ). IsPrefix v bytes) e p in
        let n : length c.0 ≡ prefix_len is_symbol bytes = run_whole is_symbol c.0 x line bytes dashes f p' in
        let b = prefix_from_take c.0 bytes (prefix_front c.0 (x ∷ line) bytes p') in
        absurd (false≢true (sym none ∙ ap (λ (k : ℕ). are_dashes (take k bytes)) (sym n) ∙ ap are_dashes (sym b) ∙ dashes_to c.0 c.2))

pub run_longest : (bytes : List ℕ) (len : ℕ) (s : Shape) → StartsWith Symbol bytes → len ≡ prefix_len is_symbol bytes → are_dashes (take len bytes) ≡ false
    → HasShape s (take len bytes) → IsLongest s (take len bytes) bytes
run_longest bytes len s starts e none has =
    let size : length (take len bytes) ≡ len = length-take-le len bytes (omega (arith, e, run_le is_symbol bytes)) in
    let none' : are_dashes (take (prefix_len is_symbol bytes) bytes) ≡ false = ap (λ (k : ℕ). are_dashes (take k bytes)) (sym e) ∙ none in
    record {
      has = has;
      begins = begins_take len bytes;
      longest = λ o t h b. omega (arith, size, e, candidate bytes (prefix_len is_symbol bytes) o t starts (λ u r p. run_bound is_symbol u bytes (all_of is_symbol u r) p) (comment_in_run bytes none') h b);
    }

pub operator_shape : (bytes : List ℕ) (len : ℕ) → StartsWith Symbol bytes → len ≡ prefix_len is_symbol bytes → is_operator (take len bytes) ≡ true → HasShape (lexeme Op) (take len bytes)
operator_shape bytes len s e op = (subst (λ (k : ℕ). IsRunOf is_symbol (take k bytes)) (sym e) (symbol_run bytes s), op)

pub strange_shape : (bytes : List ℕ) (len : ℕ) → StartsWith Symbol bytes → len ≡ prefix_len is_symbol bytes → is_operator (take len bytes) ≡ false → are_dashes (take len bytes) ≡ false → HasShape malformed (take len bytes)
strange_shape bytes len s e op none =
    inl (subst (λ (k : ℕ). IsRunOf is_symbol (take k bytes)) (sym e) (symbol_run bytes s), op, λ d. false≢true (sym none ∙ dashes_to (take len bytes) d))

-- ---- line comments

run_le_line : (bytes : List ℕ) → prefix_len is_symbol bytes ≤ prefix_len is_within_line bytes
run_le_line bytes =
    let bound : length (take (prefix_len is_symbol bytes) bytes) ≤ prefix_len is_within_line bytes = run_bound is_within_line (take (prefix_len is_symbol bytes) bytes) bytes (weaken is_symbol is_within_line symbol_within_line (take (prefix_len is_symbol bytes) bytes) (run_passes is_symbol bytes)) (prefix_from (take (prefix_len is_symbol bytes) bytes) bytes (begins_take (prefix_len is_symbol bytes) bytes)) in
    omega (arith, length-take-le (prefix_len is_symbol bytes) bytes (run_le is_symbol bytes))

first_fails_take : (test : ℕ → Bool) (n : ℕ) (bytes : List ℕ) → FirstFails test bytes → FirstFails test (take n bytes)
first_fails_take test zero bytes f = tt
first_fails_take test (suc n) [] f = tt
first_fails_take test (suc n) (b ∷ bs) f = f

take_split : (m n : ℕ) (bytes : List ℕ) → m ≤ n → take n bytes ≡ take m bytes ++ take (n - m) (drop m bytes)
take_split zero n bytes le = ap (λ (k : ℕ). take k bytes) (let e : n ≡ n - 0 = omega arith in e)
take_split (suc m) zero bytes le = absurd (omega arith)
take_split (suc m) (suc n) [] le = sym (take_all (suc n - suc m) [] (omega arith))
take_split (suc m) (suc n) (b ∷ bs) le = let e : suc n - suc m ≡ n - m = omega arith in rw e (ap (λ (t : List ℕ). b ∷ t) (take_split m n bs (omega arith)))

all_drop_take : (test : ℕ → Bool) (t u : List ℕ) → AllByRecursion (λ b. IsTrue (test b)) (t ++ u) → AllByRecursion (λ b. IsTrue (test b)) u
all_drop_take test [] u a = a
all_drop_take test (x ∷ xs) u a = all_drop_take test xs u a.1

pub is_line_comment : (bytes : List ℕ) (len end : ℕ) → StartsWith Symbol bytes → len ≡ prefix_len is_symbol bytes → are_dashes (take len bytes) ≡ true → end ≡ prefix_len is_within_line bytes → IsLineComment (take end bytes)
is_line_comment bytes len end s e dashes f =
    let le : len ≤ end = omega (arith, e, f, run_le_line bytes) in
    let text : take end bytes ≡ take len bytes ++ take (end - len) (drop len bytes) = take_split len end bytes le in
    let all : AllByRecursion (λ b. IsTrue (is_within_line b)) (take end bytes) = subst (λ (k : ℕ). AllByRecursion (λ b. IsTrue (is_within_line b)) (take k bytes)) (sym f) (run_passes is_within_line bytes) in (
      take len bytes,
      take (end - len) (drop len bytes),
      dashes_from (take len bytes) dashes,
      first_fails_take is_symbol (end - len) (drop len bytes) (subst (λ (k : ℕ). FirstFails is_symbol (drop k bytes)) (sym e) (run_stops is_symbol bytes)),
      within_line (take (end - len) (drop len bytes)) (all_drop_take is_within_line (take len bytes) (take (end - len) (drop len bytes)) (subst (λ (t : List ℕ). AllByRecursion (λ b. IsTrue (is_within_line b)) t) text all)),
      text,
    )

pub comment_longest : (bytes : List ℕ) (end : ℕ) (s : Shape) → StartsWith Symbol bytes → end ≡ prefix_len is_within_line bytes → HasShape s (take end bytes) → IsLongest s (take end bytes) bytes
comment_longest bytes end s starts e has =
    let size : length (take end bytes) ≡ end = length-take-le end bytes (omega (arith, e, run_le is_within_line bytes)) in
    record {
      has = has;
      begins = begins_take end bytes;
      longest = λ o t h b. omega (
        arith,
        size,
        e,
        candidate bytes (prefix_len is_within_line bytes) o t starts
            (λ u r p. run_bound is_within_line u bytes (weaken is_symbol is_within_line symbol_within_line u (all_of is_symbol u r)) p)
            (λ u c p. run_bound is_within_line u bytes (comment_within u c) p) h b,
      );
    }

pub no_open_at_symbol : (bytes : List ℕ) → StartsWith Symbol bytes → OpenCommentBegins bytes → ⊥
no_open_at_symbol [] s o = s
no_open_at_symbol (b ∷ bs) s o = no_open_comment b bs (λ e. let f : Symbol ≡ Special = sym s ∙ e in cc) o
