-- A source that is held tells as much as the whole one.
use Rattle.std.proofs.Common.{◌≡◌, ℕ, ◌+◌, ◌≤◌, List, [], ◌∷◌, ◌++◌, length, map, refl, sym, ap, subst, ◌∙◌, arith, inl, inr}
use Rattle.std.proofs.lemmas.List.{take_all, length-take, length-map}
use Rattle.hm_lex.specs.declared.token.LexFault.TheVariants as lexing
use Rattle.hm_lex.specs.Faults.{AreTokensOf, IsRefusal}
use Rattle.hm_graph.specs.Outline.{Outline}
use Rattle.hm_run_io.specs.Sources.{held_of}
use Rattle.hm_run_sources.specs.Refusals.{Refusal, lex, parse, plan}
use Rattle.hm_run_sources.specs.Runs.{HasOutlines, AreOutlinesOf, IsSourceFault, FailsAtSource, FailsAtPlan, IsRefusalOf, IsPlanRun}
use Rattle.hm_run_sources.specs.declared.status.Status.{Status}
use Rattle.hm_run_sources.specs.declared.status.Status.TheVariants.{Good, Faulty, Refused}

-- a source within the limit is held whole
pub held_short : (s : List ℕ) → length (held_of s) ≤ 1048576 → held_of s ≡ s
held_short s h = take_all 1048577 s (omega (arith, simp (length-take {A = ℕ}) at h))

pub tokens_held : (s : List ℕ) (tokens : _) → AreTokensOf (held_of s) tokens → held_of s ≡ s
tokens_held s tokens h = held_short s h.short

pub outlines_held : (s : List ℕ) (modules : List Outline) → HasOutlines (held_of s) modules → HasOutlines s modules
outlines_held s modules h = subst (λ l. HasOutlines l modules) (tokens_held s h.tokens h.lexed) h

pub heads_held : (ss : List (List ℕ)) (modules : List Outline) → AreOutlinesOf (map held_of ss) modules → AreOutlinesOf ss modules
heads_held [] modules h = h
heads_held (s ∷ ss) modules h = (h.0, h.1, outlines_held s h.0 h.2, heads_held ss h.1 h.3, h.4)

pub lex_held : (s : List ℕ) (fault : _) → IsRefusal (held_of s) fault → IsRefusal s fault
lex_held s lexing.TooLong h = omega (arith, simp (length-take {A = ℕ}) at h)
lex_held s (lexing.Lexeme p) h = subst (λ l. IsRefusal l (lexing.Lexeme p)) (held_short s h.0) h
lex_held s (lexing.OpenComment p) h = subst (λ l. IsRefusal l (lexing.OpenComment p)) (held_short s h.0) h
lex_held s (lexing.TooDeep p) h = subst (λ l. IsRefusal l (lexing.TooDeep p)) (held_short s h.0) h
lex_held s lexing.Memory h = tt

pub fault_held : (n : ℕ) (s : List ℕ) (r : Refusal) → IsSourceFault n (held_of s) r → IsSourceFault n s r
fault_held n s (lex m fault) h = (h.0, lex_held s fault h.1)
fault_held n s (parse m fault) h = subst (λ l. IsSourceFault n l (parse m fault)) (tokens_held s h.1.0 h.1.1) h
fault_held n s (plan fault m i) h = h

-- the parts of a mapped list come from parts of the list
pub map_parts : (f : List ℕ → List ℕ) (xs before : List (List ℕ)) (y : List ℕ) (after : List (List ℕ)) → map f xs ≡ before ++ y ∷ after
    → (b : List (List ℕ)) × (x : List ℕ) × (a : List (List ℕ)) × (xs ≡ b ++ x ∷ a) × (map f b ≡ before) × (f x ≡ y)
map_parts f [] [] y after e = absurd (cc)
map_parts f [] (b ∷ bs) y after e = absurd (cc)
map_parts f (x ∷ xs) [] y after e = ([], x, xs, refl, refl, cc)
map_parts f (x ∷ xs) (b ∷ bs) y after e =
    let tail : map f xs ≡ bs ++ y ∷ after = cc in
    let head : f x ≡ b = cc in
    let r = map_parts f xs bs y after tail in
    (x ∷ r.0, r.1, r.2, ap (λ l. x ∷ l) r.3, (let inner = r.4 in cc), r.5)

pub source_fault_held : (ss : List (List ℕ)) (r : Refusal) → FailsAtSource (map held_of ss) r → FailsAtSource ss r
source_fault_held ss r h =
    let p = map_parts held_of ss h.before h.source h.after h.whole in
    let count : length h.before + 1 ≡ length p.0 + 1 = ap (λ l. length l + 1) (sym p.4) ∙ ap (λ k. k + 1) (length-map p.0 held_of) in
    record {
      before = p.0;
      source = p.1;
      after = p.2;
      whole = p.3;
      modules = h.modules;
      read = heads_held p.0 h.modules (subst (λ l. AreOutlinesOf l h.modules) (sym p.4) h.read);
      fault = fault_held (length p.0 + 1) p.1 r (subst (λ k. IsSourceFault k (held_of p.1) r) count (subst (λ l. IsSourceFault (length h.before + 1) l r) (sym p.5) h.fault));
    }

pub plan_fault_held : (ss : List (List ℕ)) (r : Refusal) → FailsAtPlan (map held_of ss) r → FailsAtPlan ss r
plan_fault_held ss r h = record { modules = h.modules; read = heads_held ss h.modules h.read; fault = h.fault }

pub refusal_held : (ss : List (List ℕ)) (r : Refusal) → IsRefusalOf (map held_of ss) r → IsRefusalOf ss r
refusal_held ss r h = record {
  lasting = h.lasting;
  first = elim h.first [ inl x ↦ inl (source_fault_held ss r x) | inr x ↦ inr (plan_fault_held ss r x) ];
}

-- what is held of the sources gives the run of the whole sources
pub run_held : (ss : List (List ℕ)) (status : Status) (text : List ℕ) → IsPlanRun (map held_of ss) status text → IsPlanRun ss status text
run_held ss Good text h = record { modules = h.modules; read = heads_held ss h.modules h.read; rows = h.rows; lawful = h.lawful; planned = h.planned; says = h.says }
run_held ss Faulty text h = h
run_held ss Refused text h = record { refusal = h.refusal; because = refusal_held ss h.refusal h.because; says = h.says }
