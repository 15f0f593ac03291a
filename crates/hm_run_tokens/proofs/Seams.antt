-- A cut of a text that ends a line stays one, whatever comes after the text.
use Rattle.std.proofs.Common.{◌≡◌, ◌⊎◌, inl, inr, ℕ, ◌+◌, ◌<◌, ◌≤◌, List, [], ◌∷◌, ◌++◌, length, drop, Some, None, refl, sym, ap, ◌∙◌, subst, arith, append_assoc, length-append, codes}
use Rattle.std.proofs.lemmas.Bool.{cases_lt, false≢true}
use Rattle.std.proofs.lemmas.List.{append-nil}
use Rattle.hm_lex.specs.declared.token.Kind.TheVariants as kind
use Rattle.hm_lex.specs.declared.token.Kind.{Kind}
use Rattle.hm_lex.specs.Bytes.{class_of}
use Rattle.hm_lex.specs.Comments.{IsCommentRest, IsNestedComment}
use Rattle.hm_lex.specs.Cut.{Begins, IsLongest, shape_of, Piece, text_of, AreLongest, is_line_end}
use Rattle.hm_lex.specs.Nesting.{plus, close_len}
use Rattle.hm_lex.specs.Quotes.{IsString}
use Rattle.hm_lex.specs.Quoting.{string_item_len, IsByteRest, byte_ends, byte_item}
use Rattle.hm_lex.specs.Shapes.{Shape, white_space, comment, lexeme, malformed, HasShape}
use Rattle.hm_lex.proofs.ByFirst.{FromFirst, class_brace, class_double_quote, first, no_shape_nil}
use Rattle.hm_lex.proofs.Bytewise.{to_bytes}
use Rattle.hm_lex.proofs.Escapes.{item_complete, no_item_at_quote}
use Rattle.hm_lex.proofs.NestedComments.{counts}
use Rattle.hm_lex.proofs.OneLine.{IsOneLine}
use Rattle.hm_lex.proofs.OneShape.{shape_positive}
use Rattle.hm_lex.proofs.Prefix.{IsPrefix, prefix_of_append, prefix_from, begins_from, prefix_after, prefix_length}
use Rattle.hm_run_tokens.proofs.Items.{no_malformed}
use Rattle.hm_run_tokens.proofs.OneLines.{kind_inside, comment_inside, malformed_inside}

-- ---- fronts of one text

-- the shorter of two fronts begins the longer
shorter_front : (a t w : List ℕ) → IsPrefix a w → IsPrefix t w → length a ≤ length t → IsPrefix a t
shorter_front [] t w p q le = tt
shorter_front (x ∷ a) [] w p q le = absurd (omega arith)
shorter_front (x ∷ a) (y ∷ t) [] p q le = absurd p
shorter_front (x ∷ a) (y ∷ t) (z ∷ w) p q le = (p.0 ∙ sym q.0, shorter_front a t w p.1 q.1 (omega arith))

-- a text with a line end is not on one line
two_lines : (line t : List ℕ) → IsPrefix (line ++ 10 ∷ []) t → IsOneLine t → ⊥
two_lines [] [] p a = p
two_lines [] (y ∷ ys) p a = false≢true (sym a.0 ∙ ap is_line_end (sym p.0))
two_lines (x ∷ line) [] p a = p
two_lines (x ∷ line) (y ∷ ys) p a = two_lines line ys p.1 a.1

-- ---- nested comments and strings that begin one text have one length

close_none : (bytes : List ℕ) → close_len 0 bytes ≡ Some 0
unfolding close_len
close_none bytes = refl

rest_counts : (r w : List ℕ) → IsCommentRest r → IsPrefix r w → close_len 1 w ≡ Some (length r + 0)
rest_counts r w c p = counts r w 0 c p ∙ ap (plus (length r)) (close_none (drop (length r) w))

nested_rest : (t w : List ℕ) (n : IsNestedComment t) → IsPrefix t w → IsPrefix n.0 (drop 2 w)
nested_rest t w n p = prefix_after (codes "{-") n.0 w (subst (λ (u : List ℕ). IsPrefix u w) n.2 p)

one_comment : (t u w : List ℕ) → IsNestedComment t → IsNestedComment u → IsPrefix t w → IsPrefix u w → length t ≡ length u
one_comment t u w n m p q =
    let a = rest_counts n.0 (drop 2 w) n.1 (nested_rest t w n p) in
    let b = rest_counts m.0 (drop 2 w) m.1 (nested_rest u w m q) in
    let same : length n.0 + 0 ≡ length m.0 + 0 = (let e : Some (length n.0 + 0) ≡ Some (length m.0 + 0) = sym a ∙ b in cc) in
    let sizes : (length t ≡ length (123 ∷ 45 ∷ n.0)) × (length u ≡ length (123 ∷ 45 ∷ m.0)) = (ap length n.2, ap length m.2) in
    omega (arith, sizes.0, sizes.1, same)

rest_positive : (t : List ℕ) → IsByteRest t → 0 < length t
rest_positive [] (byte_ends e) = absurd cc
rest_positive [] (byte_item first rest i r e) = absurd (let k = rest_positive rest r in omega (arith, k, ap length e, length-append first rest))
rest_positive (x ∷ xs) r = omega arith

-- no item begins at the last quote
quote_apart : (t w : List ℕ) (n : ℕ) → t ≡ 34 ∷ [] → IsPrefix t w → string_item_len w ≡ Some n → ⊥
quote_apart t [] n e p s = subst (λ (v : List ℕ). IsPrefix v []) e p
quote_apart t (x ∷ w) n e p s =
    let f = (subst (λ (v : List ℕ). IsPrefix v (x ∷ w)) e p).0 in
    let g : None ≡ Some n = sym (no_item_at_quote w) ∙ ap (λ (b : ℕ). string_item_len (b ∷ w)) f ∙ s in
    cc

item_prefix : (t w first rest : List ℕ) → t ≡ first ++ rest → IsPrefix t w → IsPrefix (first ++ rest) w
item_prefix t w first rest e p = subst (λ (v : List ℕ). IsPrefix v w) e p

one_rest : (t u w : List ℕ) → IsByteRest t → IsByteRest u → IsPrefix t w → IsPrefix u w → length t ≡ length u
one_rest t u w (byte_ends e) (byte_ends f) p q = ap length e ∙ sym (ap length f)
one_rest t u w (byte_ends e) (byte_item first rest i r f) p q =
    absurd (quote_apart t w (length first) e p (item_complete w first rest i (rest_positive rest r) (item_prefix u w first rest f q)))
one_rest t u w (byte_item first rest i r e) (byte_ends f) p q =
    absurd (quote_apart u w (length first) f q (item_complete w first rest i (rest_positive rest r) (item_prefix t w first rest e p)))
one_rest t u w (byte_item first rest i r e) (byte_item other more j s f) p q =
    let p' = item_prefix t w first rest e p in
    let q' = item_prefix u w other more f q in
    let m = item_complete w first rest i (rest_positive rest r) p' in
    let n = item_complete w other more j (rest_positive more s) q' in
    let same : length first ≡ length other = (let g : Some (length first) ≡ Some (length other) = sym m ∙ n in cc) in
    let b : IsPrefix more (drop (length first) w) = subst (λ (k : ℕ). IsPrefix more (drop k w)) (sym same) (prefix_after other more w q') in
    let k = one_rest rest more (drop (length first) w) r s (prefix_after first rest w p') b in
    omega (arith, same, k, ap length e, ap length f, length-append first rest, length-append other more)

string_rest : (t w : List ℕ) (n : IsString t) → IsPrefix t w → IsPrefix n.0 (drop 1 w)
string_rest t w n p = prefix_after (34 ∷ []) n.0 w (subst (λ (u : List ℕ). IsPrefix u w) n.2 p)

one_string : (t u w : List ℕ) → IsString t → IsString u → IsPrefix t w → IsPrefix u w → length t ≡ length u
one_string t u w n m p q =
    let k = one_rest n.0 m.0 (drop 1 w) (to_bytes n.0 n.1).0 (to_bytes m.0 m.1).0 (string_rest t w n p) (string_rest u w m q) in
    omega (arith, k, ap length n.2, ap length m.2)

-- ---- the longest piece stays the longest

-- two bytes of a comment's mark are there, if its text begins with a line end behind them
mark_begins : (line t rest : List ℕ) → t ≡ 123 ∷ 45 ∷ rest → IsPrefix (line ++ 10 ∷ []) t → IsPrefix (123 ∷ 45 ∷ []) (line ++ 10 ∷ [])
mark_begins [] t rest e p = absurd (let q = subst (λ (u : List ℕ). IsPrefix (10 ∷ []) u) e p in let f : 10 ≡ 123 = q.0 in omega (arith, f))
mark_begins (a ∷ []) t rest e p = absurd (let q = subst (λ (u : List ℕ). IsPrefix (a ∷ 10 ∷ []) u) e p in let f : 10 ≡ 45 = q.1.0 in omega (arith, f))
mark_begins (a ∷ b ∷ line) t rest e p = let q = subst (λ (u : List ℕ). IsPrefix (a ∷ b ∷ line ++ 10 ∷ []) u) e p in (sym q.0, (sym q.1.0, tt))

-- a text with a shape whose first byte begins a comment or a string
first_brace : (s : Shape) (text t : List ℕ) (w rest : List ℕ) → HasShape s text → IsPrefix text w → IsPrefix t w → t ≡ 123 ∷ rest → FromFirst (class_of 123) s text
first_brace s [] t w rest h p q e = absurd (no_shape_nil s h)
first_brace s (x ∷ xs) t [] rest h p q e = absurd p
first_brace s (x ∷ xs) t (y ∷ ys) rest h p q e =
    let here : x ≡ 123 = p.0 ∙ sym (subst (λ (u : List ℕ). IsPrefix u (y ∷ ys)) e q).0 in
    subst (λ (b : ℕ). FromFirst (class_of b) s (x ∷ xs)) here (first s x xs h)

first_quote : (s : Shape) (text t : List ℕ) (w rest : List ℕ) → HasShape s text → IsPrefix text w → IsPrefix t w → t ≡ 34 ∷ rest → FromFirst (class_of 34) s text
first_quote s [] t w rest h p q e = absurd (no_shape_nil s h)
first_quote s (x ∷ xs) t [] rest h p q e = absurd p
first_quote s (x ∷ xs) t (y ∷ ys) rest h p q e =
    let here : x ≡ 34 = p.0 ∙ sym (subst (λ (u : List ℕ). IsPrefix u (y ∷ ys)) e q).0 in
    subst (λ (b : ℕ). FromFirst (class_of b) s (x ∷ xs)) here (first s x xs h)

module _ (piece : Piece) (line more : List ℕ) (l : IsLongest (shape_of piece.item) piece.text (line ++ 10 ∷ [])) where
  text_begins : Begins piece.text ((line ++ 10 ∷ []) ++ more)
  text_begins = (l.begins.0 ++ more, sym (append_assoc piece.text l.begins.0 more) ∙ ap (λ (u : List ℕ). u ++ more) l.begins.1)

  text_front : IsPrefix piece.text ((line ++ 10 ∷ []) ++ more)
  text_front = prefix_from piece.text ((line ++ 10 ∷ []) ++ more) text_begins

  text_within : length piece.text ≤ length (line ++ 10 ∷ [])
  text_within = prefix_length piece.text (line ++ 10 ∷ []) (prefix_from piece.text (line ++ 10 ∷ []) l.begins)

  lines_long : length (line ++ 10 ∷ []) ≡ length line + 1
  lines_long = length-append line (10 ∷ [])

  no_comment : (t : List ℕ) → IsNestedComment t → IsPrefix (line ++ 10 ∷ []) t → length (line ++ 10 ∷ []) < length t → IsPrefix t ((line ++ 10 ∷ []) ++ more) → ⊥
  no_comment t n p lt q =
      let form = subst (λ c. FromFirst c (shape_of piece.item) piece.text) class_brace (first_brace (shape_of piece.item) piece.text t ((line ++ 10 ∷ []) ++ more) (45 ∷ n.0) l.has text_front q n.2) in
      elim form [
        | inl single ↦
            let long : 2 ≤ length piece.text = l.longest malformed (codes "{-") (inr (inr (inr (inl refl)))) (begins_from (codes "{-") (line ++ 10 ∷ []) (mark_begins line t n.0 n.2 p)) in
            omega (arith, long, ap length single.1.1)
        | inr (inl mark) ↦ no_malformed piece mark.0
        | inr (inr remark) ↦ omega (arith, one_comment piece.text t ((line ++ 10 ∷ []) ++ more) remark.0 n text_front q, text_within, lt)
      ]

  no_string : (t : List ℕ) → IsString t → length (line ++ 10 ∷ []) < length t → IsPrefix t ((line ++ 10 ∷ []) ++ more) → ⊥
  no_string t n lt q =
      let form = subst (λ c. FromFirst c (shape_of piece.item) piece.text) class_double_quote (first_quote (shape_of piece.item) piece.text t ((line ++ 10 ∷ []) ++ more) n.0 l.has text_front q n.2) in
      omega (arith, one_string piece.text t ((line ++ 10 ∷ []) ++ more) form.1 n text_front q, text_within, lt)

  no_kind : (k : Kind) (t : List ℕ) → HasShape (lexeme k) t → IsPrefix (line ++ 10 ∷ []) t → length (line ++ 10 ∷ []) < length t → IsPrefix t ((line ++ 10 ∷ []) ++ more) → ⊥
  no_kind kind.Str t h p lt q = no_string t h lt q
  no_kind kind.Word t h p lt q = two_lines line t p (kind_inside kind.Word t h (λ e. cc))
  no_kind kind.VarId t h p lt q = two_lines line t p (kind_inside kind.VarId t h (λ e. cc))
  no_kind kind.ConId t h p lt q = two_lines line t p (kind_inside kind.ConId t h (λ e. cc))
  no_kind kind.Op t h p lt q = two_lines line t p (kind_inside kind.Op t h (λ e. cc))
  no_kind kind.Special t h p lt q = two_lines line t p (kind_inside kind.Special t h (λ e. cc))
  no_kind kind.QVarId t h p lt q = two_lines line t p (kind_inside kind.QVarId t h (λ e. cc))
  no_kind kind.QConId t h p lt q = two_lines line t p (kind_inside kind.QConId t h (λ e. cc))
  no_kind kind.Integer t h p lt q = two_lines line t p (kind_inside kind.Integer t h (λ e. cc))
  no_kind kind.Character t h p lt q = two_lines line t p (kind_inside kind.Character t h (λ e. cc))

  -- no text with a shape begins before the end of the lines and ends after it
  apart : (o : Shape) (t : List ℕ) → HasShape o t → IsPrefix (line ++ 10 ∷ []) t → length (line ++ 10 ∷ []) < length t → IsPrefix t ((line ++ 10 ∷ []) ++ more) → ⊥
  apart white_space t h p lt q = omega (arith, lt, lines_long, ap length h.2)
  apart comment t (inl one, u) p lt q = two_lines line t p (comment_inside t one)
  apart comment t (inr nested, u) p lt q = no_comment t nested p lt q
  apart (lexeme k) t h p lt q = no_kind k t h p lt q
  apart malformed t h p lt q = two_lines line t p (malformed_inside t h (λ nested. no_comment t nested p lt q))

  pub still_longest : IsLongest (shape_of piece.item) piece.text ((line ++ 10 ∷ []) ++ more)
  still_longest = record {
    has = l.has;
    begins = text_begins;
    longest = λ o t h b.
        let q : IsPrefix t ((line ++ 10 ∷ []) ++ more) = prefix_from t ((line ++ 10 ∷ []) ++ more) b in
        let lines : IsPrefix (line ++ 10 ∷ []) ((line ++ 10 ∷ []) ++ more) = prefix_of_append (line ++ 10 ∷ []) more in
        elim (cases_lt (length (line ++ 10 ∷ [])) (length t)) [
          | inl past ↦ absurd (apart o t h (shorter_front (line ++ 10 ∷ []) t ((line ++ 10 ∷ []) ++ more) lines q (omega (arith, past))) past q)
          | inr within ↦ l.longest o t h (begins_from t (line ++ 10 ∷ []) (shorter_front t (line ++ 10 ∷ []) ((line ++ 10 ∷ []) ++ more) q lines within))
        ];
  }

-- ---- cuts

-- the end of lines ends a line
last_line : (a b line : List ℕ) → a ++ b ≡ line ++ 10 ∷ [] → 0 < length b → (end : List ℕ) × (b ≡ end ++ 10 ∷ [])
last_line [] b line e lt = (line, e)
last_line (p ∷ a) b [] e lt = absurd (omega (arith, lt, ap length e, length-append a b))
last_line (p ∷ a) b (q ∷ line) e lt = let tails : a ++ b ≡ line ++ 10 ∷ [] = cc in last_line a b line tails lt

-- nothing, or lines, after a piece of lines
tail_line : (p : Piece) (qs : List Piece) (line : List ℕ) → p.text ++ text_of qs ≡ line ++ 10 ∷ [] → AreLongest qs [] → (qs ≡ []) ⊎ ((end : List ℕ) × (text_of qs ≡ end ++ 10 ∷ []))
tail_line p [] line e a = inl refl
tail_line p (q ∷ qs) line e a =
    inr (last_line p.text (q.text ++ text_of qs) line e (omega (arith, shape_positive (shape_of q.item) q.text a.0.has, length-append q.text (text_of qs))))

pub longest_before : (ps : List Piece) (line more : List ℕ) → text_of ps ≡ line ++ 10 ∷ [] → AreLongest ps [] → AreLongest ps more
longest_before [] line more e a = tt
longest_before (p ∷ ps) line more e a =
    let here : IsLongest (shape_of p.item) p.text (line ++ 10 ∷ []) = subst (λ (t : List ℕ). IsLongest (shape_of p.item) p.text t) (ap (λ (t : List ℕ). p.text ++ t) (append-nil (text_of ps)) ∙ e) a.0 in
    let whole : (line ++ 10 ∷ []) ++ more ≡ p.text ++ (text_of ps ++ more) = ap (λ (t : List ℕ). t ++ more) (sym e) ∙ append_assoc p.text (text_of ps) more in (
      subst (λ (t : List ℕ). IsLongest (shape_of p.item) p.text t) whole (still_longest p line more here),
      elim (tail_line p ps line e a.1) [
        | inl none ↦ subst (λ (qs : List Piece). AreLongest qs more) (sym none) tt
        | inr k ↦ longest_before ps k.0 more k.1 a.1
      ],
    )
