-- Chains of colons, read in a loop.
use Rattle.std.proofs.Common.{◌≡◌, List, [], ◌∷◌, ◌++◌, Bool, true, false, Option, Some, None, refl, sym, ap, ◌∙◌, codes}
use Rattle.hm_syntax.specs.Names.{Identifier}
use Rattle.hm_syntax.specs.Trees.{Expression}
use Rattle.hm_parse_grammar.specs.declared.symbol.Symbol.TheVariants.{Colon}
use Rattle.hm_parse_grammar.specs.Tokens.{Terminal}
use Rattle.hm_parse_grammar.specs.Reading.Basics.{◌>>=◌, peek, is_at, tail}
use Rattle.hm_parse_grammar.specs.Reading.Constructors.{special_at}
use Rattle.hm_parse_grammar.specs.Reading.Expressions.{begins_open, cons_expression, consed, behind_operands, link, open_by, opd_with, exp_with, chain_step, all_expressions}
use Rattle.hm_parse_descent.proofs.ExpressionLoops.{chain_is}

-- ---- the beginning of a chain

open_step : (ts : List Terminal) (r : Option (Expression × List Terminal)) → begins_open (peek ts) ≡ true → open_by all_expressions (peek ts) ts ≡ r →
    chain_step all_expressions ts ≡ ◌>>=◌ {A = Expression × List Terminal} {B = (Expression × Bool) × List Terminal} r (λ e. Some ((e.0, true), e.1))
unfolding chain_step
open_step ts r h q = rw (h, q) refl

closed_step : (ts : List Terminal) (r : Option (Expression × List Terminal)) → begins_open (peek ts) ≡ false → opd_with all_expressions ts ≡ r →
    chain_step all_expressions ts ≡ ◌>>=◌ {A = Expression × List Terminal} {B = (Expression × Bool) × List Terminal} r (λ a. link all_expressions a.0 a.1)
unfolding chain_step
closed_step ts r h q = rw (h, q) refl

pub chain_open : (ts us : List Terminal) (e : Expression) → begins_open (peek ts) ≡ true → open_by all_expressions (peek ts) ts ≡ Some (e, us) → all_expressions.chain ts ≡ Some ((e, true), us)
chain_open ts us e h q = chain_is ts ∙ open_step ts (Some (e, us)) h q

pub chain_open_none : (ts : List Terminal) → begins_open (peek ts) ≡ true → open_by all_expressions (peek ts) ts ≡ None → all_expressions.chain ts ≡ None
chain_open_none ts h q = chain_is ts ∙ open_step ts None h q

pub chain_closed : (ts us : List Terminal) (a : Expression) → begins_open (peek ts) ≡ false → opd_with all_expressions ts ≡ Some (a, us) → all_expressions.chain ts ≡ link all_expressions a us
chain_closed ts us a h q = chain_is ts ∙ closed_step ts (Some (a, us)) h q

pub chain_closed_none : (ts : List Terminal) → begins_open (peek ts) ≡ false → opd_with all_expressions ts ≡ None → all_expressions.chain ts ≡ None
chain_closed_none ts h q = chain_is ts ∙ closed_step ts None h q

-- ---- what is open needs no chain

pub exp_open : (ts us : List Terminal) (e : Expression) → begins_open (peek ts) ≡ true → open_by all_expressions (peek ts) ts ≡ Some (e, us) → exp_with all_expressions ts ≡ Some (e, us)
unfolding exp_with
exp_open ts us e h q = rw (chain_open ts us e h q) refl

pub exp_open_none : (ts : List Terminal) → begins_open (peek ts) ≡ true → open_by all_expressions (peek ts) ts ≡ None → exp_with all_expressions ts ≡ None
unfolding exp_with
exp_open_none ts h q = rw (chain_open_none ts h q) refl

-- ---- colons

pub behind_nothing : (r : Option ((Expression × Bool) × List Terminal)) → behind_operands [] r ≡ r
behind_nothing None = refl
behind_nothing (Some r) = refl

pub consed_on : (ps : List (Expression × Identifier)) (x : Expression × Identifier) (e : Expression) → consed (ps ++ x ∷ []) e ≡ consed ps (cons_expression x.1 x.0 e)
consed_on [] x e = refl
consed_on (p ∷ ps) x e = ap (cons_expression p.1 p.0) (consed_on ps x e)

behind_more : (ps : List (Expression × Identifier)) (e : Expression) (n : Identifier) (r : Option ((Expression × Bool) × List Terminal)) →
    behind_operands (ps ++ (e, n) ∷ []) r ≡ behind_operands ps (r >>= λ b. Some ((cons_expression n e b.0.0, b.0.1), b.1))
behind_more ps e n None = refl
behind_more ps e n (Some r) = ap (λ z. Some ((z, r.0.1), r.1)) (consed_on ps (e, n) r.0.0)

link_more : (e : Expression) (ts : List Terminal) → is_at Colon ts ≡ true → link all_expressions e ts ≡ (all_expressions.chain (tail ts) >>= λ b. Some ((cons_expression (special_at (codes ":") ts) e b.0.0, b.0.1), b.1))
unfolding link
link_more e ts h = rw h refl

pub link_end : (e : Expression) (ts : List Terminal) → is_at Colon ts ≡ false → link all_expressions e ts ≡ Some ((e, false), ts)
unfolding link
link_end e ts h = rw h refl

pub chain_alone : (ts us : List Terminal) (a : Expression) → begins_open (peek ts) ≡ false → opd_with all_expressions ts ≡ Some (a, us) → is_at Colon us ≡ false → all_expressions.chain ts ≡ Some ((a, false), us)
chain_alone ts us a h q n = chain_closed ts us a h q ∙ link_end a us n

-- one operand more, with the colon behind it
one_more : (ps : List (Expression × Identifier)) (e : Expression) (ts : List Terminal) (r : Option ((Expression × Bool) × List Terminal)) → is_at Colon ts ≡ true → all_expressions.chain (tail ts) ≡ r →
    behind_operands (ps ++ (e, special_at (codes ":") ts) ∷ []) r ≡ behind_operands ps (link all_expressions e ts)
one_more ps e ts r h q =
    behind_more ps e (special_at (codes ":") ts) r ∙
    ap (behind_operands ps) (sym (link_more e ts h ∙ ap (λ r. r >>= λ b. Some ((cons_expression (special_at (codes ":") ts) e b.0.0, b.0.1), b.1)) q))

go_on : (ps : List (Expression × Identifier)) (e f : Expression) (ts us : List Terminal) → is_at Colon ts ≡ true → begins_open (peek (tail ts)) ≡ false → opd_with all_expressions (tail ts) ≡ Some (f, us) →
    behind_operands (ps ++ (e, special_at (codes ":") ts) ∷ []) (link all_expressions f us) ≡ behind_operands ps (link all_expressions e ts)
go_on ps e f ts us h o q = one_more ps e ts (link all_expressions f us) h (chain_closed (tail ts) us f o q)

-- with the operands and the tokens as the loop has them
pub colons_go_on : (ps qs : List (Expression × Identifier)) (e f : Expression) (n : Identifier) (ts rs us : List Terminal) → is_at Colon ts ≡ true → rs ≡ tail ts → n ≡ special_at (codes ":") ts → qs ≡ ps ++ (e, n) ∷ [] →
    begins_open (peek rs) ≡ false → opd_with all_expressions rs ≡ Some (f, us) → behind_operands qs (link all_expressions f us) ≡ behind_operands ps (link all_expressions e ts)
colons_go_on ps qs e f n ts rs us h r d g o q =
    let closed : begins_open (peek (tail ts)) ≡ false = ap (λ z. begins_open (peek z)) (sym r) ∙ o in
    let read : opd_with all_expressions (tail ts) ≡ Some (f, us) = ap (opd_with all_expressions) (sym r) ∙ q in
    rw (g, d) (go_on ps e f ts us h closed read)

pub colons_none : (ps : List (Expression × Identifier)) (e : Expression) (ts : List Terminal) → is_at Colon ts ≡ true → begins_open (peek (tail ts)) ≡ false → opd_with all_expressions (tail ts) ≡ None →
    behind_operands ps (link all_expressions e ts) ≡ None
colons_none ps e ts h o q = sym (one_more ps e ts None h (chain_closed_none (tail ts) o q))

pub colons_open : (ps : List (Expression × Identifier)) (e f : Expression) (ts us : List Terminal) → is_at Colon ts ≡ true → begins_open (peek (tail ts)) ≡ true → open_by all_expressions (peek (tail ts)) (tail ts) ≡ Some (f, us) →
    behind_operands ps (link all_expressions e ts) ≡ Some ((consed (ps ++ (e, special_at (codes ":") ts) ∷ []) f, true), us)
colons_open ps e f ts us h o q = sym (one_more ps e ts (Some ((f, true), us)) h (chain_open (tail ts) us f o q))

-- with the operands and the tokens as the loop has them
pub colons_opened : (ps qs : List (Expression × Identifier)) (e f w : Expression) (ts rs us : List Terminal) → is_at Colon ts ≡ true → rs ≡ tail ts → qs ≡ ps ++ (e, special_at (codes ":") ts) ∷ [] →
    begins_open (peek rs) ≡ true → open_by all_expressions (peek rs) rs ≡ Some (f, us) → w ≡ consed qs f → behind_operands ps (link all_expressions e ts) ≡ Some ((w, true), us)
colons_opened ps qs e f w ts rs us h r g o q d =
    let opened : begins_open (peek (tail ts)) ≡ true = ap (λ z. begins_open (peek z)) (sym r) ∙ o in
    let read : open_by all_expressions (peek (tail ts)) (tail ts) ≡ Some (f, us) = ap (λ z. open_by all_expressions (peek z) z) (sym r) ∙ q in
    rw (d, g) (colons_open ps e f ts us h opened read)

pub colons_open_none : (ps : List (Expression × Identifier)) (e : Expression) (ts : List Terminal) → is_at Colon ts ≡ true → begins_open (peek (tail ts)) ≡ true → open_by all_expressions (peek (tail ts)) (tail ts) ≡ None →
    behind_operands ps (link all_expressions e ts) ≡ None
colons_open_none ps e ts h o q = sym (one_more ps e ts None h (chain_open_none (tail ts) o q))

pub colons_end : (ps : List (Expression × Identifier)) (e : Expression) (ts : List Terminal) → is_at Colon ts ≡ false → behind_operands ps (link all_expressions e ts) ≡ Some ((consed ps e, false), ts)
colons_end ps e ts h = ap (behind_operands ps) (link_end e ts h)
