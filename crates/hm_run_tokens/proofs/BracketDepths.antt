-- The depth of brackets after tokens is that after the pieces of their text.
use Rattle.std.proofs.Common.{◌≡◌, ◌≢◌, ℕ, ◌+◌, ◌-◌, ◌<◌, ◌≤◌, Bool, true, false, nat_eq, List, [], ◌∷◌, ◌++◌, length, take, drop, get_or, refl, sym, ap, ◌∙◌, subst, arith, append_assoc, length-drop, length-take-le}
use Rattle.std.specs.Prelude.{◌&&◌, ◌||◌}
use Rattle.std.proofs.lemmas.Bool.{eqb-true}
use Rattle.std.proofs.lemmas.List.{append-nil, drop_more, take_more}
use Rattle.std.proofs.Math.Seq.{take-append_seam, drop-append_seam}
use Rattle.hm_lex.specs.declared.token.Kind.{Kind}
use Rattle.hm_lex.specs.declared.token.Kind.TheVariants as kind
use Rattle.hm_lex.specs.declared.token.Token.{Token}
use Rattle.hm_lex.specs.Bytes.{class_of}
use Rattle.hm_lex.specs.Cut.{Piece, text_of, AreLongest, shape_of, is_opening, is_closing, text_depth, depth_step, depth_from, depth_after, token_after, item_tokens, tokens_after}
use Rattle.hm_lex.specs.Faults.{AreTokensOf}
use Rattle.hm_lex.specs.Shapes.{Shape, white_space, comment, lexeme, malformed, HasShape}
use Rattle.hm_lex.specs.Texts.{LiesIn, token_text}
use Rattle.hm_lex.proofs.OneShape.{shape_unique}
use Rattle.hm_run_tokens.specs.Parts.{IsClosed}
use Rattle.hm_run_tokens.proofs.Items.{comment_tokens, lexeme_tokens, no_malformed, white_tokens}
use Rattle.hm_run_tokens.specs.Depths.{token_step, token_depth}

-- ---- what is no single mark is no bracket

and_false : (x : Bool) → (x && false) ≡ false
and_false true = refl
and_false false = refl

no_opening : (text : List ℕ) → length text ≢ 1 → is_opening text ≡ false
unfolding is_opening
no_opening [] e = refl
no_opening (b ∷ []) e = absurd (e refl)
no_opening (b ∷ c ∷ rest) e = simp and_false

no_closing : (text : List ℕ) → length text ≢ 1 → is_closing text ≡ false
unfolding is_closing
no_closing [] e = refl
no_closing (b ∷ []) e = absurd (e refl)
no_closing (b ∷ c ∷ rest) e = simp and_false

pub depth_of_longer : (depth : ℕ) (text : List ℕ) → length text ≢ 1 → text_depth depth text ≡ depth
depth_of_longer depth text e = rw (no_opening text e, no_closing text e) refl

-- a byte that is none of three
three : (x y z b : ℕ) → (nat_eq x b ≡ true → ⊥) → (nat_eq y b ≡ true → ⊥) → (nat_eq z b ≡ true → ⊥) → ((nat_eq x b && true) || ((nat_eq y b && true) || ((nat_eq z b && true) || false))) ≡ false
three x y z b p q r = go (nat_eq x b) (nat_eq y b) (nat_eq z b) p q r
  where
    go : (i j k : Bool) → (i ≡ true → ⊥) → (j ≡ true → ⊥) → (k ≡ true → ⊥) → ((i && true) || ((j && true) || ((k && true) || false))) ≡ false
    go true j k p q r = absurd (p refl)
    go false true k p q r = absurd (q refl)
    go false false true p q r = absurd (r refl)
    go false false false p q r = refl

module _ (s : Shape) (b : ℕ) (h : HasShape s (b ∷ [])) (n : s ≡ lexeme kind.Special → ⊥) where
  no_special : (x : ℕ) → HasShape (lexeme kind.Special) (x ∷ []) → nat_eq x b ≡ true → ⊥
  no_special x k e = n (shape_unique s (lexeme kind.Special) (b ∷ []) h (subst (λ (y : ℕ). HasShape (lexeme kind.Special) (y ∷ [])) (eqb-true x b e) k))

  one_no_opening : is_opening (b ∷ []) ≡ false
  unfolding is_opening class_of
  one_no_opening = three 40 91 123 b (no_special 40 (40, refl, refl)) (no_special 91 (91, refl, refl)) (no_special 123 (123, refl, refl))

  one_no_closing : is_closing (b ∷ []) ≡ false
  unfolding is_closing class_of
  one_no_closing = three 41 93 125 b (no_special 41 (41, refl, refl)) (no_special 93 (93, refl, refl)) (no_special 125 (125, refl, refl))

  one_depth : (depth : ℕ) → text_depth depth (b ∷ []) ≡ depth
  one_depth depth = rw (one_no_opening, one_no_closing) refl

-- white space and comments leave the depth
depth_of_gap : (s : Shape) (text : List ℕ) (depth : ℕ) → HasShape s text → (s ≡ lexeme kind.Special → ⊥) → text_depth depth text ≡ depth
depth_of_gap s [] depth h n = depth_of_longer depth [] (λ e. omega (arith, e))
depth_of_gap s (b ∷ []) depth h n = one_depth s b h n depth
depth_of_gap s (b ∷ c ∷ rest) depth h n = depth_of_longer depth (b ∷ c ∷ rest) (λ e. omega (arith, e))

-- ---- tokens and pieces

text_there : (before text rest : List ℕ) (k : Kind) → token_text (before ++ (text ++ rest)) (token_after before k text) ≡ text
text_there before text rest k =
    let same : length before + length text - length before ≡ length text = omega arith in
    rw (same, drop-append_seam before (text ++ rest)) (take-append_seam text rest)

piece_depth : (before rest : List ℕ) (p : Piece) (more : List Token) (depth : ℕ) → HasShape (shape_of p.item) p.text
    → token_depth (before ++ (p.text ++ rest)) depth (item_tokens before p.item p.text ++ more) ≡ token_depth (before ++ (p.text ++ rest)) (depth_step depth p) more
piece_depth before rest p more depth h = by_shape (shape_of p.item) refl
  where
    gap : item_tokens before p.item p.text ≡ [] → (shape_of p.item ≡ lexeme kind.Special → ⊥)
        → token_depth (before ++ (p.text ++ rest)) depth (item_tokens before p.item p.text ++ more) ≡ token_depth (before ++ (p.text ++ rest)) (depth_step depth p) more
    gap none apart =
        ap (λ (ts : List Token). token_depth (before ++ (p.text ++ rest)) depth (ts ++ more)) none
        ∙ ap (λ (d : ℕ). token_depth (before ++ (p.text ++ rest)) d more) (sym (depth_of_gap (shape_of p.item) p.text depth h apart))

    by_shape : (s : Shape) → shape_of p.item ≡ s → token_depth (before ++ (p.text ++ rest)) depth (item_tokens before p.item p.text ++ more) ≡ token_depth (before ++ (p.text ++ rest)) (depth_step depth p) more
    by_shape white_space s = gap (white_tokens p before p.text s) (λ e. let f : white_space ≡ lexeme kind.Special = sym s ∙ e in cc)
    by_shape comment s = gap (comment_tokens p before p.text s) (λ e. let f : comment ≡ lexeme kind.Special = sym s ∙ e in cc)
    by_shape (lexeme k) s =
        ap (λ (ts : List Token). token_depth (before ++ (p.text ++ rest)) depth (ts ++ more)) (lexeme_tokens p k before p.text s)
        ∙ ap (λ (t : List ℕ). token_depth (before ++ (p.text ++ rest)) (text_depth depth t) more) (text_there before p.text rest k)
    by_shape malformed s = absurd (no_malformed p s)

depth_there : (before : List ℕ) (ps : List Piece) (rest : List ℕ) (depth : ℕ) → AreLongest ps rest → token_depth (before ++ text_of ps) depth (tokens_after before ps) ≡ depth_from depth ps
depth_there before [] rest depth a = refl
depth_there before (p ∷ ps) rest depth a =
    let later = tokens_after (before ++ p.text) ps in
    piece_depth before (text_of ps) p later depth a.0.has
    ∙ ap (λ (t : List ℕ). token_depth t (depth_step depth p) later) (sym (append_assoc before p.text (text_of ps))) ∙ depth_there (before ++ p.text) ps rest (depth_step depth p) a.1

pub closed_by_tokens : (source : List ℕ) (tokens : List Token) → AreTokensOf source tokens → token_depth source 0 tokens ≡ 0 → IsClosed source
closed_by_tokens source tokens a e =
    let joined : text_of a.pieces ≡ source = sym (append-nil (text_of a.pieces)) ∙ a.cut.joined in
    let there : token_depth source 0 tokens ≡ depth_after a.pieces =
    subst (λ (t : List ℕ). token_depth t 0 tokens ≡ depth_after a.pieces) joined (ap (λ (ts : List Token). token_depth (text_of a.pieces) 0 ts) a.tokens_are ∙ depth_there [] a.pieces [] 0 a.cut.longest) in
    (a.pieces, a.cut, sym there ∙ e)

-- ---- the loop

pub depth_push : (source : List ℕ) (depth : ℕ) (ts : List Token) (t : Token) → token_depth source depth (ts ++ t ∷ []) ≡ token_step source (token_depth source depth ts) t
depth_push source depth [] t = refl
depth_push source depth (x ∷ ts) t = depth_push source (token_step source depth x) ts t

pub depth_more : (source : List ℕ) (ts : List Token) (i : ℕ) (d : Token) → i < length ts → token_depth source 0 (take (i + 1) ts) ≡ text_depth (token_depth source 0 (take i ts)) (token_text source (get_or ts i d))
depth_more source ts i d lt = ap (token_depth source 0) (take_more ts i d lt) ∙ depth_push source 0 (take i ts) (get_or ts i d)

-- ---- the text of one token

module _ (text : List ℕ) (token : Token) (lies : LiesIn text token) where
  pub one_byte_text : token.end - token.start ≡ 1 → token_text text token ≡ get_or text token.start 0 ∷ []
  one_byte_text e =
      let inside : token.start < length text = omega (arith, lies.within, e) in
      ap (λ (n : ℕ). take n (drop token.start text)) e ∙ ap (take 1) (drop_more text token.start 0 inside)

  pub longer_text : (depth : ℕ) → token.end - token.start ≢ 1 → token_step text depth token ≡ depth
  longer_text depth n =
      let size : length (token_text text token) ≡ token.end - token.start = length-take-le (token.end - token.start) (drop token.start text) (omega (arith, lies.within, length-drop token.start text)) in
      depth_of_longer depth (token_text text token) (λ e. n (sym size ∙ e))

pub depth_of_byte : (depth : ℕ) (b : ℕ) → text_depth depth (b ∷ []) ≤ depth + 1
depth_of_byte depth b = grind arith

pub depth_on : (source : List ℕ) (ts : List Token) (i : ℕ) (d : Token) (depth later : ℕ) → i < length ts → depth ≡ token_depth source 0 (take i ts) → later ≡ token_step source depth (get_or ts i d)
    → later ≡ token_depth source 0 (take (i + 1) ts)
depth_on source ts i d depth later lt e f = f ∙ ap (λ (n : ℕ). token_step source n (get_or ts i d)) e ∙ sym (depth_more source ts i d lt)
