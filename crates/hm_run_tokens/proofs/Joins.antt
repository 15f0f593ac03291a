-- The tokens of two parts of a source are its tokens.
use Rattle.std.proofs.Common.{◌≡◌, ℕ, ◌+◌, ◌≤◌, Bool, true, false, cond, List, [], ◌∷◌, ◌++◌, length, map, refl, sym, ap, ◌∙◌, subst, arith, append_assoc, length-append}
use Rattle.std.specs.List.{count_by}
use Rattle.std.proofs.lemmas.List.{append-nil, map-append}
use Rattle.std.proofs.lemmas.List.Sums.{sum_by-append}
use Rattle.hm_lex.specs.declared.token.Kind.{Kind}
use Rattle.hm_lex.specs.declared.token.LexFault.TheVariants.{TooDeep}
use Rattle.hm_lex.specs.declared.token.Place.{Place}
use Rattle.hm_lex.specs.declared.token.Token.{Token}
use Rattle.hm_lex.specs.Cut.{Piece, text_of, IsLongest, shape_of, AreLongest, IsCutBefore, IsCut, is_line_end, place_after, token_after, item_tokens, tokens_after, depth_step, depth_from, depth_after}
use Rattle.hm_lex.specs.Shapes.{Shape, white_space, comment, lexeme, malformed}
use Rattle.hm_lex.specs.Faults.{AreTokensOf, max_source_len}
use Rattle.hm_lex.specs.Scan.{IsShallow, place_step}
use Rattle.hm_lex.proofs.Cuts.{longest_append, one_cut, text_of_append}
use Rattle.hm_lex.proofs.FirstFault.{faultless, shallow_push}
use Rattle.hm_lex.proofs.Places.{place, place_same, place_after_push}
use Rattle.hm_run_tokens.specs.Parts.{AreTokensAfter, EndsLine, IsClosed, moved}
use Rattle.hm_run_tokens.proofs.Items.{comment_tokens, lexeme_tokens, no_malformed, white_tokens}
use Rattle.hm_run_tokens.proofs.Seams.{longest_before}

-- ---- places and tokens after lines

-- a place of a text, if these lines come before it
abbrev moved_place : List ℕ → Place → Place
moved_place lines p = place (count_by is_line_end lines + p.line) p.column

step_moved : (lines : List ℕ) (p : Place) (b : ℕ) → place_step (moved_place lines p) b ≡ moved_place lines (place_step p b)
step_moved lines p b = go (is_line_end b) refl
  where
    go : (x : Bool) → is_line_end b ≡ x → place_step (moved_place lines p) b ≡ moved_place lines (place_step p b)
    go true e = rw e (place_same (count_by is_line_end lines + p.line + 1) (count_by is_line_end lines + (p.line + 1)) 1 1 (omega arith) refl)
    go false e = rw e refl

-- lines end at the first column
column_after : (lines : List ℕ) → EndsLine lines → (place_after lines).column ≡ 1
column_after lines (line, e) = ap (λ (t : List ℕ). (place_after t).column) e ∙ ap (λ (p : Place). p.column) (place_after_push line 10)

after_lines : (lines : List ℕ) → EndsLine lines → place_after (lines ++ []) ≡ moved_place lines (place_after [])
after_lines lines e =
    ap place_after (append-nil lines)
    ∙ place_same (1 + count_by is_line_end lines) (count_by is_line_end lines + 1) (place_after lines).column 1 (omega arith) (column_after lines e)

places_on : (lines before text : List ℕ) → place_after (lines ++ before) ≡ moved_place lines (place_after before) → place_after (lines ++ (before ++ text)) ≡ moved_place lines (place_after (before ++ text))
places_on lines before [] e = ap (λ (t : List ℕ). place_after (lines ++ t)) (append-nil before) ∙ e ∙ ap (λ (t : List ℕ). moved_place lines (place_after t)) (sym (append-nil before))
places_on lines before (b ∷ bs) e =
    let here : place_after (lines ++ (before ++ b ∷ [])) ≡ moved_place lines (place_after (before ++ b ∷ [])) =
    ap place_after (sym (append_assoc lines before (b ∷ []))) ∙ place_after_push (lines ++ before) b ∙ ap (λ (p : Place). place_step p b) e ∙ step_moved lines (place_after before) b
    ∙ ap (moved_place lines) (sym (place_after_push before b)) in
    let k = places_on lines (before ++ b ∷ []) bs here in
    subst (λ (t : List ℕ). place_after (lines ++ t) ≡ moved_place lines (place_after t)) (append_assoc before (b ∷ []) bs) k

place_moved : (lines text : List ℕ) → EndsLine lines → place_after (lines ++ text) ≡ moved_place lines (place_after text)
place_moved lines text e = places_on lines [] text (after_lines lines e)

abbrev token_at : Kind → ℕ → ℕ → Place → Token
token_at k start end p = record { kind = k; start = start; end = end; place = p }

token_same : (k : Kind) (s t e f : ℕ) (p q : Place) → s ≡ t → e ≡ f → p ≡ q → token_at k s e p ≡ token_at k t f q
token_same k s t e f p q a b c = λ i. token_at k (a i) (b i) (c i)

token_moved : (lines before : List ℕ) (k : Kind) (text : List ℕ) → EndsLine lines → token_after (lines ++ before) k text ≡ moved lines (token_after before k text)
token_moved lines before k text e =
    token_same k (length (lines ++ before)) (length lines + length before) (length (lines ++ before) + length text) (length lines + (length before + length text))
    (place_after (lines ++ before)) (moved_place lines (place_after before))
    (length-append lines before) (omega (arith, length-append lines before)) (place_moved lines before e)

item_moved : (lines before : List ℕ) (p : Piece) → EndsLine lines → item_tokens (lines ++ before) p.item p.text ≡ map (moved lines) (item_tokens before p.item p.text)
item_moved lines before p e = by_shape (shape_of p.item) refl
  where
    none : item_tokens (lines ++ before) p.item p.text ≡ [] → item_tokens before p.item p.text ≡ [] → item_tokens (lines ++ before) p.item p.text ≡ map (moved lines) (item_tokens before p.item p.text)
    none a b = a ∙ ap (map (moved lines)) (sym b)

    by_shape : (s : Shape) → shape_of p.item ≡ s → item_tokens (lines ++ before) p.item p.text ≡ map (moved lines) (item_tokens before p.item p.text)
    by_shape white_space s = none (white_tokens p (lines ++ before) p.text s) (white_tokens p before p.text s)
    by_shape comment s = none (comment_tokens p (lines ++ before) p.text s) (comment_tokens p before p.text s)
    by_shape (lexeme k) s =
        lexeme_tokens p k (lines ++ before) p.text s ∙ ap (λ (t : Token). t ∷ []) (token_moved lines before k p.text e) ∙ ap (map (moved lines)) (sym (lexeme_tokens p k before p.text s))
    by_shape malformed s = absurd (no_malformed p s)

tokens_moved : (lines before : List ℕ) (ps : List Piece) → EndsLine lines → tokens_after (lines ++ before) ps ≡ map (moved lines) (tokens_after before ps)
tokens_moved lines before [] e = refl
tokens_moved lines before (p ∷ ps) e =
    let here = item_moved lines before p e in
    let later : tokens_after ((lines ++ before) ++ p.text) ps ≡ map (moved lines) (tokens_after (before ++ p.text) ps) =
    ap (λ (t : List ℕ). tokens_after t ps) (append_assoc lines before p.text) ∙ tokens_moved lines (before ++ p.text) ps e in
    ap (λ (ts : List Token). ts ++ tokens_after ((lines ++ before) ++ p.text) ps) here ∙ ap (λ (ts : List Token). map (moved lines) (item_tokens before p.item p.text) ++ ts) later
    ∙ sym (map-append (moved lines) (item_tokens before p.item p.text) (tokens_after (before ++ p.text) ps))

tokens_append : (before : List ℕ) (ps qs : List Piece) → tokens_after before (ps ++ qs) ≡ tokens_after before ps ++ tokens_after (before ++ text_of ps) qs
tokens_append before [] qs = ap (λ (t : List ℕ). tokens_after t qs) (sym (append-nil before))
tokens_append before (p ∷ ps) qs =
    let here = item_tokens before p.item p.text in
    ap (λ (ts : List Token). here ++ ts) (tokens_append (before ++ p.text) ps qs ∙ ap (λ (t : List ℕ). tokens_after (before ++ p.text) ps ++ tokens_after t qs) (append_assoc before p.text (text_of ps)))
    ∙ sym (append_assoc here (tokens_after (before ++ p.text) ps) (tokens_after (before ++ (p.text ++ text_of ps)) qs))

-- ---- depths

depth_append : (depth : ℕ) (ps qs : List Piece) → depth_from depth (ps ++ qs) ≡ depth_from (depth_from depth ps) qs
depth_append depth [] qs = refl
depth_append depth (p ∷ ps) qs = depth_append (depth_step depth p) ps qs

longest_front : (ps qs : List Piece) (rest : List ℕ) → AreLongest (ps ++ qs) rest → AreLongest ps (text_of qs ++ rest)
longest_front [] qs rest a = tt
longest_front (p ∷ ps) qs rest a =
    let regroup : text_of (ps ++ qs) ++ rest ≡ text_of ps ++ (text_of qs ++ rest) = ap (λ (t : List ℕ). t ++ rest) (text_of_append ps qs) ∙ append_assoc (text_of ps) (text_of qs) rest in
    (subst (λ (t : List ℕ). IsLongest (shape_of p.item) p.text (p.text ++ t)) regroup a.0, longest_front ps qs rest a.1)

-- no bracket of a text with tokens is too deep
shallow_of : (source : List ℕ) (tokens : List Token) (a : AreTokensOf source tokens) → IsShallow a.pieces
shallow_of source tokens a = record {
  never = λ front bracket more e opening deep.
      let split : front ++ bracket ∷ more ≡ (front ++ bracket ∷ []) ++ more = sym (append_assoc front (bracket ∷ []) more) in
      let longest : AreLongest (front ++ bracket ∷ []) (text_of more ++ []) = longest_front (front ++ bracket ∷ []) more [] (subst (λ (ps : List Piece). AreLongest ps []) (e ∙ split) a.cut.longest) in
      let texts : text_of (front ++ bracket ∷ []) ++ (text_of more ++ []) ≡ source =
      sym (append_assoc (text_of (front ++ bracket ∷ [])) (text_of more) []) ∙ ap (λ (t : List ℕ). t ++ []) (sym (text_of_append (front ++ bracket ∷ []) more)) ∙ ap (λ (ps : List Piece). text_of ps ++ []) (sym (e ∙ split)) ∙ a.cut.joined in
      let cut : IsCutBefore (front ++ bracket ∷ []) (text_of more ++ []) source = record { joined = texts; longest = longest } in
      a.faultless (TooDeep (place_after (text_of front))) (text_of front) (front, bracket, text_of more ++ [], cut, opening, deep, refl, refl);
}

shallow_on : (ps front qs : List Piece) → depth_after ps ≡ 0 → IsShallow (ps ++ front) → IsShallow (front ++ qs) → IsShallow (ps ++ (front ++ qs))
shallow_on ps front [] d s t = subst (λ (xs : List Piece). IsShallow (ps ++ xs)) (sym (append-nil front)) s
shallow_on ps front (q ∷ qs) d s t =
    let regroup : (front ++ q ∷ []) ++ qs ≡ front ++ q ∷ qs = append_assoc front (q ∷ []) qs in
    let depth : depth_after (ps ++ front) ≡ depth_after front = depth_append 0 ps front ∙ ap (λ (n : ℕ). depth_from n front) d in
    let next : IsShallow (ps ++ (front ++ q ∷ [])) = subst (λ (xs : List Piece). IsShallow xs) (append_assoc ps front (q ∷ [])) (shallow_push (ps ++ front) q s (λ o e. t.never front q qs refl o (sym depth ∙ e))) in
    subst (λ (xs : List Piece). IsShallow (ps ++ xs)) regroup (shallow_on ps (front ++ q ∷ []) qs d next (subst (λ (xs : List Piece). IsShallow xs) (sym regroup) t))

-- ---- both

parts_cut : (front later line : List ℕ) (ps qs : List Piece) → front ≡ line ++ 10 ∷ [] → IsCut ps front → IsCut qs later → IsCut (ps ++ qs) (front ++ later)
parts_cut front later line ps qs e a b =
    let here : text_of ps ≡ front = sym (append-nil (text_of ps)) ∙ a.joined in
    record {
      joined = ap (λ (t : List ℕ). t ++ []) (text_of_append ps qs) ∙ append_assoc (text_of ps) (text_of qs) [] ∙ ap (λ (t : List ℕ). t ++ (text_of qs ++ [])) here ∙ ap (λ (t : List ℕ). front ++ t) b.joined;
      longest = longest_append ps qs [] (longest_before ps line (text_of qs ++ []) (here ∙ e) a.longest) b.longest;
    }

pub parts_join : (front later : List ℕ) (tokens more : List Token) → EndsLine front → IsClosed front → length (front ++ later) ≤ max_source_len → AreTokensOf front tokens → AreTokensAfter front later more
    → AreTokensOf (front ++ later) (tokens ++ more)
parts_join front later tokens more (line, e) closed short a (own, b, same) =
    let here : text_of a.pieces ≡ front = sym (append-nil (text_of a.pieces)) ∙ a.cut.joined in
    let cut = parts_cut front later line a.pieces b.pieces e a.cut b.cut in
    let flat : depth_after a.pieces ≡ 0 = ap depth_after (one_cut a.pieces closed.0 front a.cut closed.1) ∙ closed.2 in
    let shallow : IsShallow (a.pieces ++ b.pieces) =
    shallow_on a.pieces [] b.pieces flat (subst (λ (ps : List Piece). IsShallow ps) (sym (append-nil a.pieces)) (shallow_of front tokens a)) (shallow_of later own b) in
    let behind : tokens_after (text_of a.pieces) b.pieces ≡ map (moved front) own =
    ap (λ (t : List ℕ). tokens_after t b.pieces) (here ∙ sym (append-nil front)) ∙ tokens_moved front [] b.pieces (line, e) ∙ ap (map (moved front)) (sym b.tokens_are) in
    record {
      short = short;
      pieces = a.pieces ++ b.pieces;
      cut = cut;
      tokens_are = ap (λ (ts : List Token). tokens ++ ts) (same ∙ sym behind) ∙ ap (λ (ts : List Token). ts ++ tokens_after (text_of a.pieces) b.pieces) a.tokens_are ∙ sym (tokens_append [] a.pieces b.pieces);
      faultless = faultless (a.pieces ++ b.pieces) (front ++ later) cut shallow;
    }

-- ---- parts with text before them

moved_twice : (before front : List ℕ) (t : Token) → moved before (moved front t) ≡ moved (before ++ front) t
moved_twice before front t =
    let size = length-append before front in
    let ends = sum_by-append (λ (x : ℕ). cond (is_line_end x) 1 0) before front in
    token_same t.kind (length before + (length front + t.start)) (length (before ++ front) + t.start) (length before + (length front + t.end)) (length (before ++ front) + t.end)
    (moved_place before (moved_place front t.place)) (moved_place (before ++ front) t.place)
    (omega (arith, size)) (omega (arith, size))
    (place_same (count_by is_line_end before + (count_by is_line_end front + t.place.line)) (count_by is_line_end (before ++ front) + t.place.line) t.place.column t.place.column (omega (arith, ends)) refl)

map_moved : (before front : List ℕ) (ts : List Token) → map (moved before) (map (moved front) ts) ≡ map (moved (before ++ front)) ts
map_moved before front [] = refl
map_moved before front (t ∷ ts) =
    ap (λ (x : Token). x ∷ map (moved before) (map (moved front) ts)) (moved_twice before front t) ∙ ap (λ (us : List Token). moved (before ++ front) t ∷ us) (map_moved before front ts)

pub parts_join_after : (before front later : List ℕ) (tokens more : List Token) → EndsLine front → IsClosed front → length (front ++ later) ≤ max_source_len
    → AreTokensAfter before front tokens → AreTokensAfter (before ++ front) later more → AreTokensAfter before (front ++ later) (tokens ++ more)
parts_join_after before front later tokens more e closed short (own, a, same) (other, b, again) = (
  own ++ map (moved front) other,
  parts_join front later own (map (moved front) other) e closed short a (other, b, refl),
  ap (λ (ts : List Token). ts ++ more) same ∙ ap (λ (ts : List Token). map (moved before) own ++ ts) (again ∙ sym (map_moved before front other)) ∙ sym (map-append (moved before) own (map (moved front) other)),
)

unmoved : (t : Token) → moved [] t ≡ t
unmoved t = token_same t.kind (0 + t.start) t.start (0 + t.end) t.end (place (0 + t.place.line) t.place.column) t.place (omega arith) (omega arith) (place_same (0 + t.place.line) t.place.line t.place.column t.place.column (omega arith) refl)

moved_nowhere : (ts : List Token) → map (moved []) ts ≡ ts
moved_nowhere [] = refl
moved_nowhere (t ∷ ts) = ap (λ (u : Token). u ∷ map (moved []) ts) (unmoved t) ∙ ap (λ (us : List Token). t ∷ us) (moved_nowhere ts)

pub nothing_before : (text : List ℕ) (tokens : List Token) → AreTokensAfter [] text tokens → AreTokensOf text tokens
nothing_before text tokens (own, a, same) = subst (λ (ts : List Token). AreTokensOf text ts) (sym (moved_nowhere own) ∙ sym same) a
