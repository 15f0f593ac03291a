-- The lines of tokens, and texts that end a line.
use Rattle.std.proofs.Common.{◌≡◌, ℕ, ◌+◌, ◌-◌, ◌<◌, ◌≤◌, List, [], ◌∷◌, ◌++◌, length, map, take, drop, get_or, refl, sym, ap, ◌∙◌, subst, arith, append_assoc, length-append, length-take-le}
use Rattle.std.specs.List.{All, AllByRecursion}
use Rattle.std.proofs.lemmas.List.{append-nil, drop_more, length-map, map-append, take_more}
use Rattle.std.proofs.Math.ListN.{set}
use Rattle.std.proofs.Math.Seq.{get_or-append_seam, set-append_seam}
use Rattle.std.proofs.lemmas.List.Elements.{All-from_recursion}
use Rattle.std.proofs.lemmas.List.Sums.{count_by-le-length}
use Rattle.hm_lex.specs.declared.token.Token.{Token}
use Rattle.hm_lex.specs.declared.token.Kind.{Kind}
use Rattle.hm_lex.specs.Cut.{Piece, text_of, is_line_end, shape_of, item_tokens, token_after, tokens_after}
use Rattle.hm_lex.specs.Shapes.{Shape, white_space, comment, lexeme, malformed}
use Rattle.hm_run_tokens.proofs.Items.{comment_tokens, lexeme_tokens, no_malformed, white_tokens}
use Rattle.hm_lex.specs.Faults.{AreTokensOf}
use Rattle.hm_run_tokens.specs.Parts.{EndsLine, IsPlacedWithin}

item_placed : (before rest : List ℕ) (p : Piece) (more : List Token) → AllByRecursion (IsPlacedWithin (length (before ++ (p.text ++ rest)))) more
    → AllByRecursion (IsPlacedWithin (length (before ++ (p.text ++ rest)))) (item_tokens before p.item p.text ++ more)
item_placed before rest p more m = by_shape (shape_of p.item) refl
  where
    with_tokens : (ts : List Token) → item_tokens before p.item p.text ≡ ts → AllByRecursion (IsPlacedWithin (length (before ++ (p.text ++ rest)))) (ts ++ more)
        → AllByRecursion (IsPlacedWithin (length (before ++ (p.text ++ rest)))) (item_tokens before p.item p.text ++ more)
    with_tokens ts e a = subst (λ (us : List Token). AllByRecursion (IsPlacedWithin (length (before ++ (p.text ++ rest)))) (us ++ more)) (sym e) a

    placed : (k : Kind) → IsPlacedWithin (length (before ++ (p.text ++ rest))) (token_after before k p.text)
    placed k = record {
      ordered = omega arith;
      within = omega (arith, length-append before (p.text ++ rest), length-append p.text rest);
      line = omega (arith, count_by-le-length is_line_end before, length-append before (p.text ++ rest));
    }

    by_shape : (s : Shape) → shape_of p.item ≡ s → AllByRecursion (IsPlacedWithin (length (before ++ (p.text ++ rest)))) (item_tokens before p.item p.text ++ more)
    by_shape white_space s = with_tokens [] (white_tokens p before p.text s) m
    by_shape comment s = with_tokens [] (comment_tokens p before p.text s) m
    by_shape (lexeme k) s = with_tokens (token_after before k p.text ∷ []) (lexeme_tokens p k before p.text s) (placed k, m)
    by_shape malformed s = absurd (no_malformed p s)

placed_after : (before : List ℕ) (ps : List Piece) → AllByRecursion (IsPlacedWithin (length (before ++ text_of ps))) (tokens_after before ps)
placed_after before [] = tt
placed_after before (p ∷ ps) =
    item_placed before (text_of ps) p (tokens_after (before ++ p.text) ps)
    (subst (λ (t : List ℕ). AllByRecursion (IsPlacedWithin (length t)) (tokens_after (before ++ p.text) ps)) (append_assoc before p.text (text_of ps)) (placed_after (before ++ p.text) ps))

pub all_placed : (source : List ℕ) (tokens : List Token) → AreTokensOf source tokens → All (IsPlacedWithin (length source)) tokens
all_placed source tokens a =
    let joined : text_of a.pieces ≡ source = sym (append-nil (text_of a.pieces)) ∙ a.cut.joined in
    All-from_recursion (IsPlacedWithin (length source)) tokens
    (subst (λ (ts : List Token). AllByRecursion (IsPlacedWithin (length source)) ts) (sym a.tokens_are) (subst (λ (t : List ℕ). AllByRecursion (IsPlacedWithin (length t)) (tokens_after [] a.pieces)) joined (placed_after [] a.pieces)))

pub line_ends : (text : List ℕ) (at : ℕ) → 0 < at → at ≤ length text → get_or text (at - 1) 0 ≡ 10 → EndsLine (take at text)
line_ends text at some le e =
    let back : at - 1 + 1 ≡ at = omega (arith, some) in
    (take (at - 1) text, ap (λ (n : ℕ). take n text) (sym back) ∙ take_more text (at - 1) 0 (omega (arith, some, le)) ∙ ap (λ (b : ℕ). take (at - 1) text ++ b ∷ []) e)

-- ---- elements changed one after the other

module _ {X : Type 0} (f : X → X) (ts : List X) (n : ℕ) (d : X) (lt : n < length ts) where
  seam : map f (take n ts) ++ drop n ts ≡ map f (take n ts) ++ get_or ts n d ∷ drop (n + 1) ts
  seam = ap (λ (r : List X). map f (take n ts) ++ r) (drop_more ts n d lt)

  long : length (map f (take n ts)) ≡ n
  long = length-map (take n ts) f ∙ length-take-le n ts (omega (arith, lt))

  pub next_is : get_or (map f (take n ts) ++ drop n ts) n d ≡ get_or ts n d
  next_is =
      ap (λ (xs : List X). get_or xs n d) seam ∙ ap (λ (k : ℕ). get_or (map f (take n ts) ++ get_or ts n d ∷ drop (n + 1) ts) k d) (sym long)
      ∙ get_or-append_seam (map f (take n ts)) (get_or ts n d) (drop (n + 1) ts) d

  pub set_next : (x : X) → x ≡ f (get_or ts n d) → set (map f (take n ts) ++ drop n ts) n x ≡ map f (take (n + 1) ts) ++ drop (n + 1) ts
  set_next x e =
      ap (λ (xs : List X). set xs n x) seam ∙ ap (λ (k : ℕ). set (map f (take n ts) ++ get_or ts n d ∷ drop (n + 1) ts) k x) (sym long)
      ∙ set-append_seam (map f (take n ts)) (get_or ts n d) (drop (n + 1) ts) x ∙ ap (λ (y : X). map f (take n ts) ++ y ∷ drop (n + 1) ts) e
      ∙ sym (append_assoc (map f (take n ts)) (f (get_or ts n d) ∷ []) (drop (n + 1) ts))
      ∙ ap (λ (xs : List X). xs ++ drop (n + 1) ts) (sym (ap (map f) (take_more ts n d lt) ∙ map-append f (take n ts) (get_or ts n d ∷ [])))
