-- Sources have one plan text.
use Rattle.std.proofs.Common.{◌≡◌, ℕ, List, [], ◌∷◌, ◌++◌, length, map, get_or, sym, ap, subst, ◌∙◌, arith, inl, inr}
use Rattle.std.specs.List.{flat_map}
use Rattle.std.proofs.lemmas.Bool.{cases_order}
use Rattle.std.proofs.lemmas.List.{get_or_default, ext_get_or}
use Rattle.hm_lex.specs.declared.token.Token.{Token}
use Rattle.hm_lex.specs.Cut.{tokens_of}
use Rattle.hm_lex.specs.Faults.{AreTokensOf}
use Rattle.hm_lex.proofs.Cuts.{one_cut}
use Rattle.hm_parse_grammar.specs.Grammar.Modules.{Spells}
use Rattle.hm_parse_grammar.proofs.Whole.{spelled_once}
use Rattle.hm_graph.specs.Outline.{Outline}
use Rattle.hm_graph.specs.Imports.{Modules, NoneTaken, name_at}
use Rattle.hm_graph.proofs.OnePlan.{one_plan}
use Rattle.hm_run_sources.specs.Names.{module_outline}
use Rattle.hm_run_sources.specs.Plans.{AreBlocksOf, Block, IsPlanText, block_text, count_line}
use Rattle.hm_run_sources.specs.Runs.{AreOutlinesOf, HasOutlines, IsPlanned}
use Rattle.hm_run_sources.proofs.OneOrder.{HaveOwnNames, one_order, one_order_of_blocks, same_block}

pub tokens_once : (source : List ℕ) (tokens others : List Token) → AreTokensOf source tokens → AreTokensOf source others → tokens ≡ others
tokens_once source tokens others a b = a.tokens_are ∙ ap tokens_of (one_cut a.pieces b.pieces source a.cut b.cut) ∙ sym b.tokens_are

source_once : (source : List ℕ) (modules others : List Outline) → HasOutlines source modules → HasOutlines source others → modules ≡ others
source_once source modules others h k =
    let same : h.tokens ≡ k.tokens = tokens_once source h.tokens k.tokens h.lexed k.lexed in
    let parsed : Spells h.modules source k.tokens = subst (λ t. Spells h.modules source t) same h.parsed in
    let trees : h.modules ≡ k.modules = spelled_once source k.tokens h.modules k.modules parsed k.parsed in
    h.are ∙ ap (map module_outline) trees ∙ sym k.are

pub outlines_once : (sources : List (List ℕ)) (modules others : List Outline) → AreOutlinesOf sources modules → AreOutlinesOf sources others → modules ≡ others
outlines_once [] modules others h k = h ∙ sym k
outlines_once (s ∷ ss) modules others h k =
    let first : h.0 ≡ k.0 = source_once s h.0 k.0 h.2 k.2 in
    let later : h.1 ≡ k.1 = outlines_once ss h.1 k.1 h.3 k.3 in
    let joined : h.0 ++ h.1 ≡ k.0 ++ k.1 = cc in
    h.4 ∙ joined ∙ sym k.4

-- ---- the blocks of a plan

blocks_once : (modules : Modules) (rows : List (List ℕ)) (blocks others : List Block) → AreBlocksOf modules rows blocks → AreBlocksOf modules rows others → blocks ≡ others
blocks_once modules rows blocks others a b =
    let d : Block = record { name = []; imports = [] } in
    ext_get_or d blocks others (a.long ∙ sym b.long)
    (λ m below.
    let x = a.each m d below in
    let y = b.each m d (omega (arith, below, a.long, b.long)) in
    same_block (get_or blocks m d) (get_or others m d) (x.named ∙ sym y.named)
    (one_order (map (name_at modules) (get_or rows m [])) (get_or blocks m d).imports (get_or others m d).imports x.ordered y.ordered))

own_names : (modules : Modules) (rows : List (List ℕ)) (blocks : List Block) → NoneTaken modules → AreBlocksOf modules rows blocks → HaveOwnNames blocks
unfolding HaveOwnNames
own_names modules rows blocks distinct a x y (i, i_below, i_is) (j, j_below, j_is) same =
    let x_name : name_at modules i ≡ x.name = sym (a.each i x i_below).named ∙ ap (λ b. b.name) i_is in
    let y_name : name_at modules j ≡ y.name = sym (a.each j y j_below).named ∙ ap (λ b. b.name) j_is in
    let names : name_at modules i ≡ name_at modules j = x_name ∙ same ∙ sym y_name in
    elim (cases_order i j) [
      | inl equal ↦
          let at_i : get_or blocks i x ≡ x = i_is in
          let at_j : get_or blocks j y ≡ y = j_is in
          let moved : get_or blocks i x ≡ get_or blocks j y = ap (λ k. get_or blocks k x) equal ∙ sym (get_or_default blocks j y x j_below) in
          sym at_i ∙ moved ∙ at_j
      | inr (inl less) ↦ absurd (distinct j (omega (arith, j_below, a.long)) (inr (i, less, names)))
      | inr (inr more) ↦ absurd (distinct i (omega (arith, i_below, a.long)) (inr (j, more, sym names)))
    ]

text_once : (modules : Modules) (rows : List (List ℕ)) (text other : List ℕ) → NoneTaken modules → IsPlanText modules rows text → IsPlanText modules rows other → text ≡ other
text_once modules rows text other distinct t u =
    let blocks : t.blocks ≡ u.blocks = blocks_once modules rows t.blocks u.blocks t.made u.made in
    let ordered : t.ordered ≡ u.ordered = one_order_of_blocks u.blocks t.ordered u.ordered (own_names modules rows u.blocks distinct u.made) (rw blocks at t.same) u.same t.sorted u.sorted in
    t.whole ∙ ap (λ l. flat_map block_text l ++ count_line (length modules)) ordered ∙ sym u.whole

pub one_plan_text : (sources : List (List ℕ)) (text other : List ℕ) → IsPlanned sources text → IsPlanned sources other → text ≡ other
one_plan_text sources text other p q =
    let modules : p.modules ≡ q.modules = outlines_once sources p.modules q.modules p.read q.read in
    let rows : p.rows ≡ q.rows = one_plan q.modules p.rows q.rows (rw modules at p.planned) q.planned in
    text_once q.modules q.rows text other q.lawful.distinct (rw (← rows) (rw modules at p.says)) q.says
