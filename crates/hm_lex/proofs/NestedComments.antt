-- Counting open comments from the left finds what the grammar of nested comments says.
use Rattle.std.proofs.Common.{◌≡◌, ℕ, zero, suc, ◌+◌, ◌-◌, ◌<◌, ◌≤◌, Bool, true, false, eqb, List, [], ◌∷◌, ◌++◌, length, get_or, take, drop, Option, Some, None, refl, sym, ap, ◌∙◌, subst, inl, inr, arith, append_assoc, length-append, length-take-le, add_assoc, add-zero, length-drop}
use Rattle.std.specs.Prelude.{codes}
use Rattle.std.specs.Str.{IsUtf8}
use Rattle.std.proofs.lemmas.List.{drop_more, drop-drop, take_at}
use Rattle.std.proofs.lemmas.Bool.{eqb-true, false≢true}
use Rattle.hm_lex.specs.declared.byte_class.ByteClass.{ByteClass}
use Rattle.hm_lex.specs.declared.byte_class.ByteClass.TheVariants.{Special}
use Rattle.hm_lex.specs.declared.comments.CommentMark.{CommentMark}
use Rattle.hm_lex.specs.declared.comments.CommentMark.TheVariants.{Opens, Closes, Plain}
use Rattle.hm_lex.specs.declared.token.Kind.TheVariants as kind
use Rattle.hm_lex.specs.Bytes.{class_of}
use Rattle.hm_lex.specs.Comments.{IsPlain, IsCommentRest, closes, plain, nested, IsNestedComment}
use Rattle.hm_lex.specs.Shapes.{Shape, lexeme, HasShape}
use Rattle.hm_lex.specs.Cut.{Begins, IsLongest}
use Rattle.hm_lex.specs.Faults.{NoItemBegins, OpenCommentBegins}
use Rattle.hm_lex.specs.Next.{StartsWith}
use Rattle.hm_lex.specs.Nesting.{mark_of, begins_comment, plus, close_len}
use Rattle.hm_lex.proofs.Prefix.{IsPrefix, prefix_from, begins_from, begins_take, prefix_front, prefix_after}
use Rattle.hm_lex.proofs.ByFirst.{FromFirst, first}
use Rattle.hm_lex.proofs.OneShape.{comment_rest_nonempty}
use Rattle.hm_lex.proofs.Malformed.{no_item_at_malformed}

-- ---- one step

close_opens : (d b c : ℕ) (bs : List ℕ) → mark_of b c ≡ Opens → close_len (suc d) (b ∷ c ∷ bs) ≡ plus 2 (close_len (suc (suc d)) bs)
unfolding close_len
close_opens d b c bs e = rw (e, close_len) refl

close_closes : (d b c : ℕ) (bs : List ℕ) → mark_of b c ≡ Closes → close_len (suc d) (b ∷ c ∷ bs) ≡ plus 2 (close_len d bs)
unfolding close_len
close_closes d b c bs e = rw (e, close_len) refl

close_plain : (d b c : ℕ) (bs : List ℕ) → mark_of b c ≡ Plain → close_len (suc d) (b ∷ c ∷ bs) ≡ plus 1 (close_len (suc d) (c ∷ bs))
unfolding close_len
close_plain d b c bs e = rw (e, close_len) refl

close_done : (bs : List ℕ) → close_len 0 bs ≡ Some 0
unfolding close_len
close_done bs = refl

close_short : (d : ℕ) (bytes : List ℕ) → length bytes ≤ 1 → close_len (suc d) bytes ≡ None
unfolding close_len
close_short d [] le = refl
close_short d (b ∷ []) le = refl
close_short d (b ∷ c ∷ bs) le = absurd (omega arith)

plus_plus : (m n : ℕ) (o : Option ℕ) → plus m (plus n o) ≡ plus (m + n) o
plus_plus m n None = refl
plus_plus m n (Some k) = ap (λ (x : ℕ). Some x) (sym (add_assoc m n k))

plus_same : (m n : ℕ) (o : Option ℕ) → m ≡ n → plus m o ≡ plus n o
plus_same m n o e = ap (λ (k : ℕ). plus k o) e

-- ---- the loop

two_more : (bytes : List ℕ) (i : ℕ) → i + 1 < length bytes → drop i bytes ≡ get_or bytes i 0 ∷ get_or bytes (i + 1) 0 ∷ drop (i + 2) bytes
two_more bytes i lt =
    let again : drop (i + 1) bytes ≡ get_or bytes (i + 1) 0 ∷ drop (i + 2) bytes = drop_more bytes (i + 1) 0 lt ∙ ap (λ (k : ℕ). get_or bytes (i + 1) 0 ∷ drop k bytes) (add_assoc i 1 1) in
    drop_more bytes i 0 (omega arith) ∙ ap (λ (t : List ℕ). get_or bytes i 0 ∷ t) again

pub step_opens : (bytes : List ℕ) (i d : ℕ) (total : Option ℕ) → i + 1 < length bytes → 0 < d → mark_of (get_or bytes i 0) (get_or bytes (i + 1) 0) ≡ Opens
    → plus i (close_len d (drop i bytes)) ≡ total → plus (i + 2) (close_len (d + 1) (drop (i + 2) bytes)) ≡ total
step_opens bytes i zero total lt positive e so_far = absurd (omega arith)
step_opens bytes i (suc d) total lt positive e so_far =
    let k : suc d + 1 ≡ suc (suc d) = omega arith in
    ap (λ (n : ℕ). plus (i + 2) (close_len n (drop (i + 2) bytes))) k ∙ sym (plus_plus i 2 (close_len (suc (suc d)) (drop (i + 2) bytes)))
    ∙ ap (plus i) (sym (close_opens d (get_or bytes i 0) (get_or bytes (i + 1) 0) (drop (i + 2) bytes) e)) ∙ ap (λ (t : List ℕ). plus i (close_len (suc d) t)) (sym (two_more bytes i lt)) ∙ so_far

pub step_closes : (bytes : List ℕ) (i d : ℕ) (total : Option ℕ) → i + 1 < length bytes → 0 < d → mark_of (get_or bytes i 0) (get_or bytes (i + 1) 0) ≡ Closes
    → plus i (close_len d (drop i bytes)) ≡ total → plus (i + 2) (close_len (d - 1) (drop (i + 2) bytes)) ≡ total
step_closes bytes i zero total lt positive e so_far = absurd (omega arith)
step_closes bytes i (suc d) total lt positive e so_far =
    let k : suc d - 1 ≡ d = omega arith in
    ap (λ (n : ℕ). plus (i + 2) (close_len n (drop (i + 2) bytes))) k ∙ sym (plus_plus i 2 (close_len d (drop (i + 2) bytes)))
    ∙ ap (plus i) (sym (close_closes d (get_or bytes i 0) (get_or bytes (i + 1) 0) (drop (i + 2) bytes) e)) ∙ ap (λ (t : List ℕ). plus i (close_len (suc d) t)) (sym (two_more bytes i lt)) ∙ so_far

pub step_last : (bytes : List ℕ) (i d : ℕ) (total : Option ℕ) → i + 1 < length bytes → d ≡ 1 → mark_of (get_or bytes i 0) (get_or bytes (i + 1) 0) ≡ Closes
    → plus i (close_len d (drop i bytes)) ≡ total → Some (i + 2) ≡ total
step_last bytes i d total lt one e so_far =
    let done : plus (i + 2) (close_len (d - 1) (drop (i + 2) bytes)) ≡ total = step_closes bytes i d total lt (omega arith) e so_far in
    let none : d - 1 ≡ 0 = omega arith in
    ap (λ (k : ℕ). Some k) (sym (add-zero (i + 2))) ∙ ap (plus (i + 2)) (sym (close_done (drop (i + 2) bytes))) ∙ ap (λ (k : ℕ). plus (i + 2) (close_len k (drop (i + 2) bytes))) (sym none) ∙ done

pub step_plain : (bytes : List ℕ) (i d : ℕ) (total : Option ℕ) → i + 1 < length bytes → 0 < d → mark_of (get_or bytes i 0) (get_or bytes (i + 1) 0) ≡ Plain
    → plus i (close_len d (drop i bytes)) ≡ total → plus (i + 1) (close_len d (drop (i + 1) bytes)) ≡ total
step_plain bytes i zero total lt positive e so_far = absurd (omega arith)
step_plain bytes i (suc d) total lt positive e so_far =
    let again : drop (i + 1) bytes ≡ get_or bytes (i + 1) 0 ∷ drop (i + 2) bytes = drop_more bytes (i + 1) 0 lt ∙ ap (λ (k : ℕ). get_or bytes (i + 1) 0 ∷ drop k bytes) (add_assoc i 1 1) in
    ap (λ (t : List ℕ). plus (i + 1) (close_len (suc d) t)) again ∙ sym (plus_plus i 1 (close_len (suc d) (get_or bytes (i + 1) 0 ∷ drop (i + 2) bytes)))
    ∙ ap (plus i) (sym (close_plain d (get_or bytes i 0) (get_or bytes (i + 1) 0) (drop (i + 2) bytes) e)) ∙ ap (λ (t : List ℕ). plus i (close_len (suc d) t)) (sym (two_more bytes i lt)) ∙ so_far

pub step_end : (bytes : List ℕ) (i d : ℕ) (total : Option ℕ) → length bytes ≤ i + 1 → 0 < d → plus i (close_len d (drop i bytes)) ≡ total → None ≡ total
step_end bytes i zero total le positive so_far = absurd (omega arith)
step_end bytes i (suc d) total le positive so_far = ap (plus i) (sym (close_short d (drop i bytes) (omega (arith, length-drop i bytes)))) ∙ so_far

-- ---- against the grammar

-- a byte where no mark stands
plain_mark : (b c : ℕ) (bs : List ℕ) → IsPlain b (c ∷ bs) → mark_of b c ≡ Plain
plain_mark b c bs p = go (eqb b 123) refl (eqb c 45) refl (eqb b 45) refl (eqb c 125) refl
  where
    go : (w : Bool) → eqb b 123 ≡ w → (x : Bool) → eqb c 45 ≡ x → (y : Bool) → eqb b 45 ≡ y → (z : Bool) → eqb c 125 ≡ z → mark_of b c ≡ Plain
    go true e true f y g z h = absurd (p bs (inl (let i = eqb-true b 123 e in let j = eqb-true c 45 f in cc)))
    go true e false f true g true h = absurd (p bs (inr (let i = eqb-true b 45 g in let j = eqb-true c 125 h in cc)))
    go true e false f true g false h = rw (e, f, g, h) refl
    go true e false f false g z h = rw (e, f, g) refl
    go false e x f true g true h = absurd (p bs (inr (let i = eqb-true b 45 g in let j = eqb-true c 125 h in cc)))
    go false e x f true g false h = rw (e, g, h) refl
    go false e x f false g z h = rw (e, g) refl

mark_opens_bytes : (b c : ℕ) → mark_of b c ≡ Opens → (b ≡ 123) × (c ≡ 45)
mark_opens_bytes b c m = go (eqb b 123) refl (eqb c 45) refl (eqb b 45) refl (eqb c 125) refl
  where
    go : (w : Bool) → eqb b 123 ≡ w → (x : Bool) → eqb c 45 ≡ x → (y : Bool) → eqb b 45 ≡ y → (z : Bool) → eqb c 125 ≡ z → (b ≡ 123) × (c ≡ 45)
    go true e true f y g z h = (eqb-true b 123 e, eqb-true c 45 f)
    go true e false f true g true h = absurd (let k : Closes ≡ Opens = sym (rw (e, f, g, h) refl) ∙ m in cc)
    go true e false f true g false h = absurd (let k : Plain ≡ Opens = sym (rw (e, f, g, h) refl) ∙ m in cc)
    go true e false f false g z h = absurd (let k : Plain ≡ Opens = sym (rw (e, f, g) refl) ∙ m in cc)
    go false e x f true g true h = absurd (let k : Closes ≡ Opens = sym (rw (e, g, h) refl) ∙ m in cc)
    go false e x f true g false h = absurd (let k : Plain ≡ Opens = sym (rw (e, g, h) refl) ∙ m in cc)
    go false e x f false g z h = absurd (let k : Plain ≡ Opens = sym (rw (e, g) refl) ∙ m in cc)

mark_closes_bytes : (b c : ℕ) → mark_of b c ≡ Closes → (b ≡ 45) × (c ≡ 125)
mark_closes_bytes b c m = go (eqb b 123) refl (eqb c 45) refl (eqb b 45) refl (eqb c 125) refl
  where
    go : (w : Bool) → eqb b 123 ≡ w → (x : Bool) → eqb c 45 ≡ x → (y : Bool) → eqb b 45 ≡ y → (z : Bool) → eqb c 125 ≡ z → (b ≡ 45) × (c ≡ 125)
    go true e true f y g z h = absurd (let k : Opens ≡ Closes = sym (rw (e, f) refl) ∙ m in cc)
    go w e x f true g true h = (eqb-true b 45 g, eqb-true c 125 h)
    go true e false f true g false h = absurd (let k : Plain ≡ Closes = sym (rw (e, f, g, h) refl) ∙ m in cc)
    go true e false f false g z h = absurd (let k : Plain ≡ Closes = sym (rw (e, f, g) refl) ∙ m in cc)
    go false e x f true g false h = absurd (let k : Plain ≡ Closes = sym (rw (e, g, h) refl) ∙ m in cc)
    go false e x f false g z h = absurd (let k : Plain ≡ Closes = sym (rw (e, g) refl) ∙ m in cc)

plain_from_mark : (b c : ℕ) (bs : List ℕ) → mark_of b c ≡ Plain → IsPlain b (c ∷ bs)
plain_from_mark b c bs m more (inl e) = let i : b ≡ 123 = cc in let j : c ≡ 45 = cc in let k : mark_of b c ≡ Opens = rw (i, j) refl in let l : Plain ≡ Opens = sym m ∙ k in cc
plain_from_mark b c bs m more (inr e) = let i : b ≡ 45 = cc in let j : c ≡ 125 = cc in let k : mark_of b c ≡ Closes = rw (i, j) refl in let l : Plain ≡ Closes = sym m ∙ k in cc

-- what the grammar says is what is counted
pub counts : (t bytes : List ℕ) (d : ℕ) → IsCommentRest t → IsPrefix t bytes → close_len (suc d) bytes ≡ plus (length t) (close_len d (drop (length t) bytes))
counts t bytes d (closes e) p = at_end bytes (subst (λ (u : List ℕ). IsPrefix u bytes) e p) ∙ ap (λ (u : List ℕ). plus (length u) (close_len d (drop (length u) bytes))) (sym e)
  where
    at_end : (r : List ℕ) → IsPrefix (45 ∷ 125 ∷ []) r → close_len (suc d) r ≡ plus 2 (close_len d (drop 2 r))
    at_end [] q = absurd q
    at_end (a ∷ []) q = absurd q.1
    at_end (a ∷ b ∷ bs) q = close_closes d a b bs (rw (← q.0, ← q.1.0) refl)
counts t bytes d (plain b rest pl r e) p =
    at_plain rest bytes pl (comment_rest_nonempty rest r) (λ u q. counts rest u d r q) (subst (λ (u : List ℕ). IsPrefix u bytes) e p) ∙ ap (λ (u : List ℕ). plus (length u) (close_len d (drop (length u) bytes))) (sym e)
  where
    at_plain : (x r' : List ℕ) → IsPlain b x → (x ≡ [] → ⊥) → ((u : List ℕ) → IsPrefix x u → close_len (suc d) u ≡ plus (length x) (close_len d (drop (length x) u))) → IsPrefix (b ∷ x) r'
        → close_len (suc d) r' ≡ plus (suc (length x)) (close_len d (drop (suc (length x)) r'))
    at_plain [] r' pl' some ih q = absurd (some refl)
    at_plain (c ∷ cs) [] pl' some ih q = absurd q
    at_plain (c ∷ cs) (a ∷ []) pl' some ih q = absurd q.1
    at_plain (c ∷ cs) (a ∷ z ∷ bs) pl' some ih q =
        let m : mark_of a z ≡ Plain = plain_mark a z bs (λ more h. pl' cs (elim h [ inl k ↦ inl (let e0 = q.0 in let e1 = q.1.0 in let f : a ≡ 123 = cc in let g : z ≡ 45 = cc in cc) | inr k ↦ inr (let e0 = q.0 in let e1 = q.1.0 in let f : a ≡ 45 = cc in let g : z ≡ 125 = cc in cc) ])) in
        close_plain d a z bs m ∙ ap (plus 1) (ih (z ∷ bs) q.1) ∙ plus_plus 1 (length (c ∷ cs)) (close_len d (drop (length (c ∷ cs)) (z ∷ bs))) ∙ plus_same (1 + length (c ∷ cs)) (suc (length (c ∷ cs))) (close_len d (drop (length (c ∷ cs)) (z ∷ bs))) (omega arith)
counts t bytes d (nested inner rest r s e) p =
    at_nested (λ u q. counts inner u (suc d) r q) (λ u q. counts rest u d s q) bytes (subst (λ (u : List ℕ). IsPrefix u bytes) e p) ∙ ap (λ (u : List ℕ). plus (length u) (close_len d (drop (length u) bytes))) (sym e)
  where
    at_nested : ((u : List ℕ) → IsPrefix inner u → close_len (suc (suc d)) u ≡ plus (length inner) (close_len (suc d) (drop (length inner) u)))
        → ((u : List ℕ) → IsPrefix rest u → close_len (suc d) u ≡ plus (length rest) (close_len d (drop (length rest) u)))
        → (r' : List ℕ) → IsPrefix (123 ∷ 45 ∷ inner ++ rest) r' → close_len (suc d) r' ≡ plus (length (123 ∷ 45 ∷ inner ++ rest)) (close_len d (drop (length (123 ∷ 45 ∷ inner ++ rest)) r'))
    at_nested ih jh [] q = absurd q
    at_nested ih jh (a ∷ []) q = absurd q.1
    at_nested ih jh (a ∷ z ∷ bs) q =
        let first = ih bs (prefix_front inner rest bs q.1.1) in
        let second = jh (drop (length inner) bs) (prefix_after inner rest bs q.1.1) in
        let size : length (inner ++ rest) ≡ length inner + length rest = length-append inner rest in
        let ends : drop (length rest) (drop (length inner) bs) ≡ drop (length (inner ++ rest)) bs = drop-drop (length rest) (length inner) bs ∙ ap (λ (n : ℕ). drop n bs) (sym size) in
        close_opens d a z bs (rw (← q.0, ← q.1.0) refl) ∙ ap (plus 2) (first ∙ ap (plus (length inner)) second)
        ∙ ap (plus 2) (plus_plus (length inner) (length rest) (close_len d (drop (length rest) (drop (length inner) bs))))
        ∙ plus_plus 2 (length inner + length rest) (close_len d (drop (length rest) (drop (length inner) bs)))
        ∙ plus_same (2 + (length inner + length rest)) (suc (suc (length (inner ++ rest)))) (close_len d (drop (length rest) (drop (length inner) bs))) (omega arith)
        ∙ ap (λ (u : List ℕ). plus (suc (suc (length (inner ++ rest)))) (close_len d u)) ends

-- what is counted is in the grammar
pub record Closed (d : ℕ) (bytes : List ℕ) (n : ℕ) : Type 0 where
  pub text : List ℕ
  pub rest : List ℕ
  pub more : ℕ
  pub in_grammar : IsCommentRest text
  pub joined : text ++ rest ≡ bytes
  pub goes_on : close_len d rest ≡ Some more
  pub size : n ≡ length text + more

plus_some : (n k : ℕ) (o : Option ℕ) → plus n o ≡ Some k → (m : ℕ) × (o ≡ Some m) × (k ≡ n + m)
plus_some n k None e = absurd cc
plus_some n k (Some m) e = (m, refl, cc)

none_some : (n : ℕ) (o : Option ℕ) → o ≡ None → o ≡ Some n → ⊥
none_some n o e f = let g : None ≡ Some n = sym e ∙ f in cc

plain_text : (b c : ℕ) (bs t u : List ℕ) → t ++ u ≡ c ∷ bs → (t ≡ [] → ⊥) → mark_of b c ≡ Plain → IsPlain b t
plain_text b c bs [] u e some m = absurd (some refl)
plain_text b c bs (y ∷ ys) u e some m = let same : y ≡ c = cc in plain_from_mark b y ys (ap (mark_of b) same ∙ m)

pub closed : (fuel : ℕ) (bytes : List ℕ) (d n : ℕ) → length bytes ≤ fuel → close_len (suc d) bytes ≡ Some n → Closed d bytes n
closed fuel [] d n le e = absurd (none_some n (close_len (suc d) []) (close_short d [] (omega arith)) e)
closed fuel (b ∷ []) d n le e = absurd (none_some n (close_len (suc d) (b ∷ [])) (close_short d (b ∷ []) (omega arith)) e)
closed zero (b ∷ c ∷ bs) d n le e = absurd (omega arith)
closed (suc fuel) (b ∷ c ∷ bs) d n le e = go (λ u k l i f. closed fuel u k l i f) (mark_of b c) refl
  where
    go : ((u : List ℕ) (k l : ℕ) → length u ≤ fuel → close_len (suc k) u ≡ Some l → Closed k u l) → (m : CommentMark) → mark_of b c ≡ m → Closed d (b ∷ c ∷ bs) n
    go ih Closes m =
        let k = plus_some 2 n (close_len d bs) (sym (close_closes d b c bs m) ∙ e) in
        let marks = mark_closes_bytes b c m in
        record {
          text = codes "-}";
          rest = bs;
          more = k.0;
          in_grammar = closes refl;
          joined = (let i = marks.0 in let j = marks.1 in cc);
          goes_on = k.1;
          size = k.2;
        }
    go ih Plain m =
        let k = plus_some 1 n (close_len (suc d) (c ∷ bs)) (sym (close_plain d b c bs m) ∙ e) in
        let r = ih (c ∷ bs) d k.0 (omega arith) k.1 in
        record {
          text = b ∷ r.text;
          rest = r.rest;
          more = r.more;
          in_grammar = plain b r.text (plain_text b c bs r.text r.rest r.joined (comment_rest_nonempty r.text r.in_grammar) m) r.in_grammar refl;
          joined = ap (λ (u : List ℕ). b ∷ u) r.joined;
          goes_on = r.goes_on;
          size = omega (arith, k.2, r.size);
        }
    go ih Opens m =
        let k = plus_some 2 n (close_len (suc (suc d)) bs) (sym (close_opens d b c bs m) ∙ e) in
        let r = ih bs (suc d) k.0 (omega arith) k.1 in
        let shorter : length r.rest ≤ fuel = omega (arith, ap length r.joined, length-append r.text r.rest) in
        let s = ih r.rest d r.more shorter r.goes_on in
        let marks = mark_opens_bytes b c m in
        record {
          text = codes "{-" ++ r.text ++ s.text;
          rest = s.rest;
          more = s.more;
          in_grammar = nested r.text s.text r.in_grammar s.in_grammar refl;
          joined = ap (λ (u : List ℕ). 123 ∷ 45 ∷ u) (append_assoc r.text s.text s.rest ∙ ap (λ (u : List ℕ). r.text ++ u) s.joined ∙ r.joined) ∙ ap (λ (u : ℕ). u ∷ 45 ∷ bs) (sym marks.0) ∙ ap (λ (u : ℕ). b ∷ u ∷ bs) (sym marks.1);
          goes_on = s.goes_on;
          size = omega (arith, k.2, r.size, s.size, length-append r.text s.text);
        }

-- ---- special marks and nested comments at the front

starts_special : (bytes : List ℕ) (x : ℕ) (xs : List ℕ) → StartsWith Special bytes → IsPrefix (x ∷ xs) bytes → class_of x ≡ Special
starts_special [] x xs s p = absurd s
starts_special (b ∷ bs) x xs s p = ap class_of p.0 ∙ s

-- every text with a shape that begins there, unless it is one byte long, begins with the mark of a nested comment
pub special_candidate : (k : ℕ) (bytes : List ℕ) (o : Shape) (t : List ℕ) → StartsWith Special bytes → 1 ≤ k
    → (IsPrefix (codes "{-") bytes → 2 ≤ k) → ((u : List ℕ) → IsNestedComment u → IsPrefix u bytes → length u ≤ k) → HasShape o t → Begins t bytes → length t ≤ k
special_candidate k bytes o [] s one mark comments h b = omega arith
special_candidate k bytes o (x ∷ xs) s one mark comments h b =
    let p = prefix_from (x ∷ xs) bytes b in
    let form : FromFirst Special o (x ∷ xs) = subst (λ (c : ByteClass). FromFirst c o (x ∷ xs)) (starts_special bytes x xs s p) (first o x xs h) in
    elim form [
      | inl single ↦ omega (arith, ap length single.1.1)
      | inr (inl opening) ↦ omega (arith, ap length opening.1, mark (subst (λ (u : List ℕ). IsPrefix u bytes) opening.1 p))
      | inr (inr remark) ↦ comments (x ∷ xs) remark.0 p
    ]

nested_begins : (t bytes : List ℕ) → IsNestedComment t → IsPrefix t bytes → IsPrefix (codes "{-") bytes
nested_begins t bytes c p = prefix_front (codes "{-") c.0 bytes (subst (λ (u : List ℕ). IsPrefix u bytes) c.2 p)

begins_test : (bytes : List ℕ) → IsPrefix (codes "{-") bytes → begins_comment bytes ≡ true
begins_test [] p = absurd p
begins_test (a ∷ []) p = absurd p.1
begins_test (a ∷ b ∷ bs) p = rw (← p.0, ← p.1.0) refl

test_begins : (bytes : List ℕ) → 2 ≤ length bytes → begins_comment bytes ≡ true → IsPrefix (codes "{-") bytes
test_begins [] le e = absurd (omega arith)
test_begins (a ∷ []) le e = absurd (omega arith)
test_begins (a ∷ b ∷ bs) le e = go (eqb a 123) refl (eqb b 45) refl
  where
    go : (x : Bool) → eqb a 123 ≡ x → (y : Bool) → eqb b 45 ≡ y → IsPrefix (codes "{-") (a ∷ b ∷ bs)
    go true h true k = (sym (eqb-true a 123 h), (sym (eqb-true b 45 k), tt))
    go true h false k = absurd (false≢true (sym (rw (h, k) refl) ∙ e))
    go false h y k = absurd (false≢true (sym (rw h refl) ∙ e))

pub mark_longest : (bytes : List ℕ) → StartsWith Special bytes → begins_comment bytes ≡ false → (1 ≤ length bytes) × IsLongest (lexeme kind.Special) (take 1 bytes) bytes
mark_longest [] s none = absurd s
mark_longest (b ∷ bs) s none =
    let no_mark : IsPrefix (codes "{-") (b ∷ bs) → ⊥ = λ p. false≢true (sym none ∙ begins_test (b ∷ bs) p) in (
      omega arith,
      record {
        has = (b, s, refl);
        begins = begins_take 1 (b ∷ bs);
        longest = λ o t h g. special_candidate 1 (b ∷ bs) o t s (omega arith) (λ p. absurd (no_mark p)) (λ u c p. absurd (no_mark (nested_begins u (b ∷ bs) c p))) h g;
      },
    )

-- a nested comment at the front has the length that is counted
nested_length : (t bytes : List ℕ) → IsNestedComment t → IsPrefix t bytes → plus 2 (close_len 1 (drop 2 bytes)) ≡ Some (length t)
nested_length t bytes c p =
    let p' : IsPrefix (codes "{-" ++ c.0) bytes = subst (λ (u : List ℕ). IsPrefix u bytes) c.2 p in
    let rest : IsPrefix c.0 (drop 2 bytes) = prefix_after (codes "{-") c.0 bytes p' in
    let k : plus 2 (close_len 1 (drop 2 bytes)) ≡ plus 2 (plus (length c.0) (Some 0)) = ap (plus 2) (counts c.0 (drop 2 bytes) 0 c.1 rest ∙ ap (plus (length c.0)) (close_done (drop (length c.0) (drop 2 bytes)))) in
    let n : 2 + (length c.0 + 0) ≡ length t = omega (arith, ap length c.2) in
    k ∙ ap (λ (m : ℕ). Some m) n

nested_at : (bytes : List ℕ) (len : ℕ) → IsPrefix (codes "{-") bytes → Some len ≡ plus 2 (close_len 1 (drop 2 bytes)) → IsNestedComment (take len bytes)
nested_at bytes len mark e =
    let k = plus_some 2 len (close_len 1 (drop 2 bytes)) (sym e) in
    let r = closed (length (drop 2 bytes)) (drop 2 bytes) 0 k.0 (omega arith) k.1 in
    let none : r.more ≡ 0 = (let f : Some 0 ≡ Some r.more = sym (close_done r.rest) ∙ r.goes_on in cc) in
    let opened = begins_from (codes "{-") bytes mark in
    let tail : drop 2 bytes ≡ opened.0 = ap (drop 2) (sym opened.1) in
    let whole : (codes "{-" ++ r.text) ++ r.rest ≡ bytes = ap (λ (u : List ℕ). 123 ∷ 45 ∷ u) (r.joined ∙ tail) ∙ opened.1 in
    let size : length (codes "{-" ++ r.text) ≡ len = omega (arith, k.2, r.size, none) in
    let front : take len bytes ≡ codes "{-" ++ r.text = ap (take len) (sym whole) ∙ take_at (codes "{-" ++ r.text) r.rest len size in
    (r.text, r.in_grammar, front)

pub nested_longest : (bytes : List ℕ) (len : ℕ) (s : Shape) → StartsWith Special bytes → 2 ≤ length bytes → begins_comment bytes ≡ true → Some len ≡ plus 2 (close_len 1 (drop 2 bytes)) → len ≤ length bytes
    → (IsNestedComment (take len bytes) → HasShape s (take len bytes)) → IsLongest s (take len bytes) bytes
nested_longest bytes len s starts long mark e within has =
    let p = test_begins bytes long mark in
    let size : length (take len bytes) ≡ len = length-take-le len bytes within in
    let here = nested_at bytes len p e in
    let two : 2 ≤ len = omega (arith, size, ap length here.2) in
    record {
      has = has here;
      begins = begins_take len bytes;
      longest = λ o t h g. omega (
        arith,
        size,
        special_candidate len bytes o t starts (omega arith) (λ q. two)
            (λ u c q. let f : Some len ≡ Some (length u) = e ∙ nested_length u bytes c q in let k : len ≡ length u = cc in omega arith) h g,
      );
    }

-- where no nested comment closes, the mark is the longest
pub unclosed : (bytes : List ℕ) → None ≡ plus 2 (close_len 1 (drop 2 bytes)) → (u : List ℕ) → IsNestedComment u → IsPrefix u bytes → ⊥
unclosed bytes e u c p = let f : None ≡ Some (length u) = e ∙ nested_length u bytes c p in cc

pub open_comment : (bytes : List ℕ) → 2 ≤ length bytes → begins_comment bytes ≡ true → None ≡ plus 2 (close_len 1 (drop 2 bytes)) → IsUtf8 bytes → OpenCommentBegins bytes
open_comment bytes long mark e utf8 = record {
  opens = begins_from (codes "{-") bytes (test_begins bytes long mark);
  never_closed = λ t c b. unclosed bytes e t c (prefix_from t bytes b);
  is_text = utf8;
}

pub no_item_at_open : (bytes : List ℕ) → StartsWith Special bytes → 2 ≤ length bytes → begins_comment bytes ≡ true → None ≡ plus 2 (close_len 1 (drop 2 bytes)) → NoItemBegins bytes
no_item_at_open bytes s long mark e =
    let p = test_begins bytes long mark in
    no_item_at_malformed (codes "{-") bytes (record {
      has = inr (inr (inr (inl refl)));
      begins = begins_from (codes "{-") bytes p;
      longest = λ o t h g. special_candidate 2 bytes o t s (omega arith) (λ q. omega arith) (λ u c q. absurd (unclosed bytes e u c q)) h g;
    })

-- a comment that closes is not open
pub not_open : (bytes : List ℕ) (len : ℕ) → 2 ≤ length bytes → begins_comment bytes ≡ true → Some len ≡ plus 2 (close_len 1 (drop 2 bytes)) → OpenCommentBegins bytes → ⊥
not_open bytes len long mark e o = o.never_closed (take len bytes) (nested_at bytes len (test_begins bytes long mark) e) (begins_take len bytes)
