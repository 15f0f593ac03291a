-- The sources of modules, by the number of modules of each source; and the worked examples.
use Rattle.std.proofs.Common.{◌≡◌, ℕ, zero, suc, ◌+◌, ◌-◌, ◌<◌, ◌≤◌, List, [], ◌∷◌, ◌++◌, length, take, get_or, replicate, refl, sym, ap, subst, ◌∙◌, arith, inl, inr, sum}
use Rattle.std.proofs.lemmas.Bool.{cases_lt}
use Rattle.std.proofs.lemmas.List.{take_all, length-append, length-replicate, get_or_append_left, get_or-append_right, get_or-replicate}
use Rattle.std.proofs.lemmas.List.Sums.{sum_by-cons, sum_by_more}
use Rattle.hm_parse_grammar.specs.Grammar.Modules.{Spells}
use Rattle.hm_parse_grammar.proofs.Whole.{spelled_once}
use Rattle.hm_syntax.specs.declared.ast.Module.{Module}
use Rattle.hm_run_sources.specs.ModuleCounts.{AreCountedModules, AreOrigins, IsCountedTo}
use Rattle.hm_run_sources.specs.Origins.{HaveOrigins, IsSpelledBy}
use Rattle.hm_run_sources.specs.SourceModules.{AreModulesOf, HasModules}
use Rattle.hm_run_sources.specs.Worked.{CountsRow, SourceRow}
use Rattle.hm_run_sources.proofs.OneText.{tokens_once}

-- ---- the source to which the counts give a module

-- the modules of one source, and of those before it
record CountedAt (sources : List (List ℕ)) (counts : List ℕ) (k : ℕ) : Type 0 where
  inside : k < length sources
  earlier : List Module
  own : List Module
  before : AreModulesOf (take k sources) earlier
  spelled : HasModules (get_or sources k []) own
  many : length earlier ≡ sum (take k counts)
  here : length own ≡ get_or counts k 0

counted_at : (sources : List (List ℕ)) (modules : List Module) (counts : List ℕ) (k : ℕ) → AreCountedModules sources modules counts → k < length counts → CountedAt sources counts k
counted_at [] modules counts k h low = let none : length counts ≡ 0 = ap length h.1 in absurd (omega (arith, low, none))
counted_at (s ∷ ss) modules counts zero h low = record {
  inside = omega arith;
  earlier = [];
  own = h.0;
  before = refl;
  spelled = h.3;
  many = refl;
  here = sym (ap (λ (l : List ℕ). get_or l 0 0) h.6);
}
counted_at (s ∷ ss) modules counts (suc k) h low =
    let many : length counts ≡ suc (length h.2) = ap length h.6 in
    let rest = counted_at ss h.1 h.2 k h.4 (omega (arith, low, many)) in
    record {
      inside = omega (arith, rest.inside);
      earlier = h.0 ++ rest.earlier;
      own = rest.own;
      before = (h.0, rest.earlier, h.3, rest.before, refl);
      spelled = rest.spelled;
      many = length-append h.0 rest.earlier
          ∙ (ap (λ (n : ℕ). length h.0 + n) rest.many ∙ (sym (sum_by-cons (λ (n : ℕ). n) (length h.0) (take k h.2)) ∙ sym (ap (λ (l : List ℕ). sum (take (suc k) l)) h.6)));
      here = rest.here ∙ sym (ap (λ (l : List ℕ). get_or l (suc k) 0) h.6);
    }

pub spelled_by_counts : (sources : List (List ℕ)) (modules : List Module) (counts : List ℕ) (m source : ℕ) → AreCountedModules sources modules counts → IsCountedTo counts m source → IsSpelledBy sources m source
spelled_by_counts sources modules counts m source h c =
    let at = counted_at sources modules counts source h c.inside in
    record {
      inside = at.inside;
      earlier = at.earlier;
      own = at.own;
      before = at.before;
      spelled = at.spelled;
      low = omega (arith, at.many, c.low);
      high = omega (arith, at.many, at.here, c.high);
    }

pub counts_sum : (sources : List (List ℕ)) (modules : List Module) (counts : List ℕ) → AreCountedModules sources modules counts → length modules ≡ sum counts
counts_sum [] modules counts h = ap length h.0 ∙ sym (ap (λ (l : List ℕ). sum l) h.1)
counts_sum (s ∷ ss) modules counts h = ap length h.5
    ∙ (length-append h.0 h.1 ∙ (ap (λ (n : ℕ). length h.0 + n) (counts_sum ss h.1 h.2 h.4) ∙ (sym (sum_by-cons (λ (n : ℕ). n) (length h.0) h.2) ∙ sym (ap (λ (l : List ℕ). sum l) h.6))))

-- ---- the sources of all modules

-- the sources of the modules of the first so many sources
pub record AreOriginsBefore (counts : List ℕ) (n : ℕ) (origins : List ℕ) : Type 0 where
  pub as_many : length origins ≡ sum (take n counts)
  pub each : (m d : ℕ) → m < length origins → IsCountedTo counts m (get_or origins m d)

pub none_before : (counts : List ℕ) → AreOriginsBefore counts 0 []
none_before counts = record { as_many = refl; each = λ m d h. absurd (omega (arith, h)) }

pub origins_more : (counts : List ℕ) (n : ℕ) (origins news : List ℕ) → n < length counts → AreOriginsBefore counts n origins → news ≡ origins ++ replicate (get_or counts n 0) n → AreOriginsBefore counts (n + 1) news
origins_more counts n origins news inside before pushed =
    let own : ℕ = get_or counts n 0 in
    let size : length news ≡ length origins + own = ap length pushed ∙ (length-append origins (replicate own n) ∙ ap (λ (k : ℕ). length origins + k) (length-replicate own n)) in
    record {
      as_many = size ∙ (ap (λ (k : ℕ). k + own) before.as_many ∙ sym (sum_by_more (λ (k : ℕ). k) counts n 0 inside));
      each = λ m d h. elim (cases_lt m (length origins)) [
        | inl low ↦ subst (IsCountedTo counts m) (sym (ap (λ (l : List ℕ). get_or l m d) pushed ∙ get_or_append_left origins (replicate own n) d m low)) (before.each m d low)
        | inr high ↦
            let place : m - length origins < own = omega (arith, high, h, size) in
            let at : get_or news m d ≡ n = ap (λ (l : List ℕ). get_or l m d) pushed
            ∙ (get_or-append_right origins (replicate own n) (length origins) m d refl (omega (arith, high)) ∙ get_or-replicate own (m - length origins) n d place) in
            subst (IsCountedTo counts m) (sym at) (record { inside = inside; low = omega (arith, high, before.as_many); high = omega (arith, h, size, before.as_many) })
      ];
    }

pub all_origins : (counts : List ℕ) (n : ℕ) (origins : List ℕ) → length counts ≤ n → AreOriginsBefore counts n origins → AreOrigins counts origins
all_origins counts n origins past before = record {
  as_many = before.as_many ∙ ap (λ (l : List ℕ). sum l) (take_all n counts past);
  each = before.each;
}

-- the sources that the counts give to modules spell them
pub have_origins : (sources : List (List ℕ)) (modules : List Module) (counts origins : List ℕ) → AreCountedModules sources modules counts → AreOrigins counts origins → HaveOrigins sources (length modules) origins
have_origins sources modules counts origins counted o = record {
  as_many = o.as_many ∙ sym (counts_sum sources modules counts counted);
  each = λ m d h. spelled_by_counts sources modules counts m (get_or origins m d) counted (o.each m d h);
}

-- ---- the source of one module

-- the modules that are left after one more source
pub left_more : (counts : List ℕ) (n left rest number : ℕ) → n < length counts → left + sum (take n counts) ≡ number → left ≡ rest + get_or counts n 0 → rest + sum (take (n + 1) counts) ≡ number
left_more counts n left rest number inside before less = omega (arith, before, less, sum_by_more (λ (k : ℕ). k) counts n 0 inside)

pub counted_here : (counts : List ℕ) (n left number : ℕ) → n < length counts → left + sum (take n counts) ≡ number → left < get_or counts n 0 → IsCountedTo counts number n
counted_here counts n left number inside before less = record { inside = inside; low = omega (arith, before); high = omega (arith, before, less) }

pub counted_out : (counts : List ℕ) (n left number : ℕ) → length counts ≤ n → left + sum (take n counts) ≡ number → sum counts ≤ number
counted_out counts n left number past before = let all : sum (take n counts) ≡ sum counts = ap (λ (l : List ℕ). sum l) (take_all n counts past) in omega (arith, before, all)

-- ---- the worked examples

-- a source spells one list of modules
pub source_modules_once : (source : List ℕ) (modules others : List Module) → HasModules source modules → HasModules source others → modules ≡ others
source_modules_once source modules others a b =
    let same : a.tokens ≡ b.tokens = tokens_once source a.tokens b.tokens a.lexed b.lexed in
    spelled_once source b.tokens modules others (subst (λ t. Spells modules source t) same a.parsed) b.parsed

first_count : List ℕ → ℕ
first_count [] = 0
first_count (n ∷ ns) = n

pub worked_counts : CountsRow
unfolding first_count
worked_counts = record {
  two_and_one = λ s t a b c first second. (a ∷ b ∷ [], c ∷ [], 1 ∷ [], first, (c ∷ [], [], [], second, (refl, refl), refl, refl), refl, refl);
  not_one_and_two = λ s t a b c first h.
      let one : 1 ≡ length h.0 = ap first_count h.6 in
      let two : length h.0 ≡ 2 = ap length (source_modules_once s h.0 (a ∷ b ∷ []) h.3 first) in
      omega (arith, one, two);
}

pub worked_sources : SourceRow
worked_sources = record {
  last = record { inside = omega arith; low = omega arith; high = omega arith };
  not_empty = λ h. omega (arith, h.high);
}
