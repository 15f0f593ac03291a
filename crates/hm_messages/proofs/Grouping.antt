-- The modules of each source, taken from those of all sources in order.
use Rattle.std.proofs.Common.{◌≡◌, ℕ, zero, suc, ◌+◌, ◌-◌, ◌<◌, ◌≤◌, Bool, cond, List, [], ◌∷◌, ◌++◌, All, append_assoc, append-nil, drop, length, map, get_or, take, take_while, refl, sym, ap, subst, ◌∙◌, arith, inl, inr}
use Rattle.std.proofs.Math.Seq.{drop-append_seam, take-append_seam, take-add}
use Rattle.std.proofs.lemmas.List.{drop-drop, drop_all, drop_more, get_or_append_left, get_or-append-add, get_or-map, length-append, length-drop, length-map, take-append-drop}
use Rattle.std.proofs.lemmas.Grind.{flat_map-append}
use Rattle.std.proofs.lemmas.List.Elements.{All-append, All-head, All-nil, All-tail}
use Rattle.std.proofs.lemmas.List.Sums.{take_while-cons}
use Rattle.std.proofs.lemmas.Bool.{eq-eqb, eqb-true, cases_Bool}
use Rattle.hm_syntax.specs.declared.ast.Module.{Module}
use Rattle.hm_run_sources.proofs.ModuleCounts.{source_modules_once}
use Rattle.hm_run_sources.specs.Origins.{IsSpelledBy}
use Rattle.hm_run_sources.specs.SourceModules.{AreModulesOf, HasModules}
use Rattle.hm_messages.specs.ModuleStarts.{MayBeStartsOf, MayStart, Start, is_from, module_start, start_of}
use Rattle.hm_messages.specs.Pages.{starts_in}
use Rattle.hm_messages.specs.declared.pages.Page.{Page}
use Rattle.hm_messages.specs.declared.starts.ModuleStart.{ModuleStart}

-- ---- numbers alone, so that no proof about them reads what sources spell

no_successor : (n : ℕ) → suc n ≡ 0 → ⊥
no_successor n e = omega (arith, e)

before_first : (m earlier before rest first : ℕ) → m < first → earlier ≤ m → earlier ≡ before + rest → before ≡ first → ⊥
before_first m earlier before rest first low begun long same = omega (arith, low, begun, long, same)

behind_first : (m earlier own first : ℕ) → first + m < earlier + own → earlier ≡ 0 → own ≡ first → ⊥
behind_first m earlier own first high none same = omega (arith, high, none, same)

below_next : (j n : ℕ) → suc j < suc n → j < n
below_next j n h = omega (arith, h)

rest_begins : (m earlier before rest first : ℕ) → earlier ≤ first + m → earlier ≡ before + rest → before ≡ first → rest ≤ m
rest_begins m earlier before rest first low long same = omega (arith, low, long, same)

rest_ends : (m earlier before rest first own : ℕ) → first + m < earlier + own → earlier ≡ before + rest → before ≡ first → m < rest + own
rest_ends m earlier before rest first own high long same = omega (arith, high, long, same)

within_own : (m own others starts : ℕ) → m < own → starts ≡ own + others → m < starts
within_own m own others starts low long = omega (arith, low, long)

within_others : (m first own others starts : ℕ) → m < others → starts ≡ own + others → own ≡ first → first + m < starts
within_others m first own others starts low long many = omega (arith, low, long, many)

own_source : (a b k n : ℕ) → a ≡ b → a ≡ k + n → n ≡ 0 → b ≡ k
own_source a b k n same is zeroth = omega (arith, same, is, zeroth)

later_source : (a b k n j : ℕ) → a ≡ b → a ≡ k + n → n ≡ suc j → b ≡ (k + 1) + j
later_source a b k n j same is next = omega (arith, same, is, next)

zeroth_source : (n : ℕ) → n ≡ 0 + n
zeroth_source n = omega arith

from_equal : (a k : ℕ) → a ≡ k → k ≤ a
from_equal a k e = omega (arith, e)

from_next : (a k : ℕ) → k + 1 ≤ a → k ≤ a
from_next a k h = omega (arith, h)

above_next : (a k : ℕ) → k + 1 ≤ a → k < a
above_next a k h = omega (arith, h)

not_above : (a k : ℕ) → a ≡ k → k < a → ⊥
not_above a k e h = omega (arith, e, h)

pub not_longer : (a b : ℕ) → a ≡ b → a ≤ b
not_longer a b e = omega (arith, e)

pub none_least : (n : ℕ) → 0 ≤ n
none_least n = omega arith

still_within : (from all left both found rest : ℕ) → from ≤ all → left ≡ both → both ≡ found + rest → left ≡ all - from → from + found ≤ all
still_within from all left both found rest within first_left parts left_is = omega (arith, within, first_left, parts, left_is)

-- the modules of sources from this number on, one source after the other
abbrev pub AreGrouped : ℕ → List (List ℕ) → List ModuleStart → Type 0
AreGrouped k [] starts = starts ≡ []
AreGrouped k (s ∷ ss) starts = (own : List ModuleStart) × (later : List ModuleStart) × MayStart s (map start_of own) × All (λ x. x.source ≡ k) own × AreGrouped (k + 1) ss later × (starts ≡ own ++ later)

none_grouped : (k : ℕ) (sources : List (List ℕ)) → AreGrouped k sources []
none_grouped k [] = refl
none_grouped k (s ∷ ss) = ([], [], inl refl, All-nil (λ x. x.source ≡ k), none_grouped (k + 1) ss, refl)

-- ---- the source that spells a module is the first one, or a later one

spelled_first : (s : List ℕ) (ss : List (List ℕ)) (first : List Module) (m j : ℕ) → HasModules s first → m < length first → IsSpelledBy (s ∷ ss) m j → j ≡ 0
spelled_first s ss first m zero has low h = refl
spelled_first s ss first m (suc j) has low h =
    let before = h.before in
    let same : before.0 ≡ first = source_modules_once s before.0 first before.2 has in
    let long : length h.earlier ≡ length before.0 + length before.1 = ap length before.4 ∙ length-append before.0 before.1 in
    absurd (before_first m (length h.earlier) (length before.0) (length before.1) (length first) low h.low long (ap length same))

record SpelledLater (ss : List (List ℕ)) (m j : ℕ) : Type 0 where
  source : ℕ
  is : j ≡ suc source
  spelled : IsSpelledBy ss m source

spelled_later : (s : List ℕ) (ss : List (List ℕ)) (first : List Module) (m j : ℕ) → HasModules s first → IsSpelledBy (s ∷ ss) (length first + m) j → SpelledLater ss m j
spelled_later s ss first m zero has h =
    let same : h.own ≡ first = source_modules_once s h.own first h.spelled has in
    let none : length h.earlier ≡ 0 = ap length h.before in
    absurd (behind_first m (length h.earlier) (length h.own) (length first) h.high none (ap length same))
spelled_later s ss first m (suc j) has h =
    let before = h.before in
    let same : before.0 ≡ first = source_modules_once s before.0 first before.2 has in
    let long : length h.earlier ≡ length before.0 + length before.1 = ap length before.4 ∙ length-append before.0 before.1 in
    record {
      source = j;
      is = refl;
      spelled = record {
        inside = below_next j (length ss) h.inside;
        earlier = before.1;
        own = h.own;
        before = before.3;
        spelled = h.spelled;
        low = rest_begins m (length h.earlier) (length before.0) (length before.1) (length first) h.low long (ap length same);
        high = rest_ends m (length h.earlier) (length before.0) (length before.1) (length first) (length h.own) h.high long (ap length same);
      };
    }

-- ---- modules in order are grouped

-- the modules of the first source, and the others
record Parted (first later : List Module) (starts : List ModuleStart) : Type 0 where
  own : List ModuleStart
  others : List ModuleStart
  whole : starts ≡ own ++ others
  own_are : map start_of own ≡ map module_start first
  others_are : map start_of others ≡ map module_start later

first_start : Start → List Start → Start
first_start s [] = s
first_start s (t ∷ ts) = t

other_starts : List Start → List Start
other_starts [] = []
other_starts (t ∷ ts) = ts

parted : (first later : List Module) (starts : List ModuleStart) → map start_of starts ≡ map module_start (first ++ later) → Parted first later starts
unfolding first_start other_starts
parted [] later starts e = record { own = []; others = starts; whole = refl; own_are = refl; others_are = e }
parted (m ∷ ms) later [] e = absurd (no_successor (length (map module_start (ms ++ later))) (sym (ap length e)))
parted (m ∷ ms) later (x ∷ xs) e =
    let rest = parted ms later xs (ap other_starts e) in
    record {
      own = x ∷ rest.own;
      others = rest.others;
      whole = ap (λ l. x ∷ l) rest.whole;
      own_are = ap (λ s. s ∷ map start_of rest.own) (ap (first_start (start_of x)) e) ∙ ap (λ l. module_start m ∷ l) rest.own_are;
      others_are = rest.others_are;
    }

-- the source of a module, if sources are numbered from k on
record Numbered (k : ℕ) (sources : List (List ℕ)) (m number : ℕ) : Type 0 where
  source : ℕ
  is : number ≡ k + source
  spelled : IsSpelledBy sources m source

grouped : (k : ℕ) (sources : List (List ℕ)) (modules : List Module) (starts : List ModuleStart) → AreModulesOf sources modules → map start_of starts ≡ map module_start modules
    → ((m : ℕ) (d : ModuleStart) → m < length starts → Numbered k sources m (get_or starts m d).source) → AreGrouped k sources starts
grouped k [] modules [] read e each = refl
grouped k [] modules (x ∷ xs) read e each = absurd (no_successor (length (map start_of xs)) (ap length e ∙ ap (λ (l : List Module). length (map module_start l)) read))
grouped k (s ∷ ss) modules starts read e each =
    let first : List Module = read.0 in
    let later : List Module = read.1 in
    let parts = parted first later starts (e ∙ ap (map module_start) read.4) in
    let many : length parts.own ≡ length first = sym (length-map parts.own start_of) ∙ (ap length parts.own_are ∙ length-map first module_start) in
    let long : length starts ≡ length parts.own + length parts.others = ap length parts.whole ∙ length-append parts.own parts.others in (
      parts.own,
      parts.others,
      inr (first, read.2, parts.own_are),
      λ m d low.
          let at : get_or starts m d ≡ get_or parts.own m d = ap (λ (l : List ModuleStart). get_or l m d) parts.whole ∙ get_or_append_left parts.own parts.others d m low in
          let n = each m d (within_own m (length parts.own) (length parts.others) (length starts) low long) in
          let zeroth : n.source ≡ 0 = spelled_first s ss first m n.source read.2 (subst (λ (l : ℕ). m < l) many low) n.spelled in
          own_source (get_or starts m d).source (get_or parts.own m d).source k n.source (ap (λ (x : ModuleStart). x.source) at) n.is zeroth,
      grouped (k + 1) ss later parts.others read.3 parts.others_are (λ m d low.
          let at : get_or starts (length first + m) d ≡ get_or parts.others m d =
          ap (λ (l : List ModuleStart). get_or l (length first + m) d) parts.whole
          ∙ (ap (λ (n : ℕ). get_or (parts.own ++ parts.others) (n + m) d) (sym many) ∙ get_or-append-add parts.own parts.others m d) in
          let n = each (length first + m) d (within_others m (length first) (length parts.own) (length parts.others) (length starts) low long many) in
          let at_later = spelled_later s ss first m n.source read.2 n.spelled in
          record {
            source = at_later.source;
            is = later_source (get_or starts (length first + m) d).source (get_or parts.others m d).source k n.source at_later.source (ap (λ (x : ModuleStart). x.source) at) n.is at_later.is;
            spelled = at_later.spelled;
          }),
      parts.whole,
    )

pub all_grouped : (sources : List (List ℕ)) (starts : List ModuleStart) → MayBeStartsOf sources starts → AreGrouped 0 sources starts
all_grouped sources starts (inl none) = subst (AreGrouped 0 sources) (sym none) (none_grouped 0 sources)
all_grouped sources starts (inr are) = grouped 0 sources are.modules starts are.read are.named (λ m d low. record { source = (get_or starts m d).source; is = zeroth_source (get_or starts m d).source; spelled = are.each m d low })

-- ---- the modules up to the first one of another source are those of one source

from_on : (k : ℕ) (sources : List (List ℕ)) (starts : List ModuleStart) → AreGrouped k sources starts → All (λ (x : ModuleStart). k ≤ x.source) starts
from_on k [] starts h = subst (All (λ (x : ModuleStart). k ≤ x.source)) (sym h) (All-nil (λ (x : ModuleStart). k ≤ x.source))
from_on k (s ∷ ss) starts h =
    let later = from_on (k + 1) ss h.1 h.4 in
    subst (All (λ (x : ModuleStart). k ≤ x.source)) (sym h.5)
    (All-append (λ (x : ModuleStart). k ≤ x.source) h.0 h.1 (λ m d low. from_equal (get_or h.0 m d).source k (h.3 m d low)) (λ m d low. from_next (get_or h.1 m d).source k (later m d low)))

none_taken : (k : ℕ) (later : List ModuleStart) → All (λ (x : ModuleStart). k < x.source) later → take_while (is_from k) later ≡ []
none_taken k [] above = refl
none_taken k (x ∷ xs) above = take_while-cons (is_from k) x xs ∙ elim (cases_Bool (is_from k x)) [
  | inl is ↦ absurd (not_above x.source k (eqb-true x.source k is) (All-head (λ (y : ModuleStart). k < y.source) x xs above))
  | inr isnt ↦ ap (λ (b : Bool). cond b (x ∷ take_while (is_from k) xs) []) isnt
]

own_taken : (k : ℕ) (own later : List ModuleStart) → All (λ (x : ModuleStart). x.source ≡ k) own → All (λ (x : ModuleStart). k < x.source) later → take_while (is_from k) (own ++ later) ≡ own
own_taken k [] later same above = none_taken k later above
own_taken k (x ∷ xs) later same above = take_while-cons (is_from k) x (xs ++ later)
    ∙ (ap (λ (b : Bool). cond b (x ∷ take_while (is_from k) (xs ++ later)) []) (eq-eqb x.source k (All-head (λ (y : ModuleStart). y.source ≡ k) x xs same))
    ∙ ap (λ (l : List ModuleStart). x ∷ l) (own_taken k xs later (All-tail (λ (y : ModuleStart). y.source ≡ k) x xs same) above))

module _ (k : ℕ) (s : List ℕ) (ss : List (List ℕ)) (starts found : List ModuleStart) (h : AreGrouped k (s ∷ ss) starts) (is : found ≡ take_while (is_from k) starts) where
  same : found ≡ h.0
  same = is ∙ (ap (take_while (is_from k)) h.5 ∙ own_taken k h.0 h.1 h.3 (later_on h.4))
    where
      later_on : AreGrouped (k + 1) ss h.1 → All (λ (x : ModuleStart). k < x.source) h.1
      later_on g = λ m d low. above_next (get_or h.1 m d).source k (from_on (k + 1) ss h.1 g m d low)

  found_start : MayStart s (map start_of found)
  found_start = subst (λ (l : List ModuleStart). MayStart s (map start_of l)) (sym same) h.2

  found_first : starts ≡ found ++ h.1
  found_first = h.5 ∙ ap (λ (l : List ModuleStart). l ++ h.1) (sym same)

  left_grouped : AreGrouped (k + 1) ss (drop (length found) starts)
  left_grouped = subst (AreGrouped (k + 1) ss) (sym (ap (drop (length found)) found_first ∙ drop-append_seam found h.1)) h.4

-- the step of a loop over sources: these are the modules of source k, and `from` is the number of the first of them
module _ (sources : List (List ℕ)) (starts found : List ModuleStart) (k from : ℕ) (low : k < length sources) (g : AreGrouped k (drop k sources) (drop from starts)) (is : found ≡ take_while (is_from k) (drop from starts)) where
  here : AreGrouped k (get_or sources k [] ∷ drop (k + 1) sources) (drop from starts)
  here = subst (λ (l : List (List ℕ)). AreGrouped k l (drop from starts)) (drop_more sources k [] low) g

  pub next_start : (text : List ℕ) → text ≡ get_or sources k [] → MayStart text (map start_of found)
  next_start text same_text = subst (λ (t : List ℕ). MayStart t (map start_of found)) (sym same_text) (found_start k (get_or sources k []) (drop (k + 1) sources) (drop from starts) found here is)

  pub next_grouped : AreGrouped (k + 1) (drop (k + 1) sources) (drop (from + length found) starts)
  next_grouped = subst (AreGrouped (k + 1) (drop (k + 1) sources)) (drop-drop (length found) from starts) (left_grouped k (get_or sources k []) (drop (k + 1) sources) (drop from starts) found here is)

  first_left : drop from starts ≡ found ++ here.1
  first_left = found_first k (get_or sources k []) (drop (k + 1) sources) (drop from starts) found here is

  pub next_taken : take (from + length found) starts ≡ take from starts ++ found
  next_taken = take-add from (length found) starts ∙ ap (λ (l : List ModuleStart). take from starts ++ l) (ap (take (length found)) first_left ∙ take-append_seam found here.1)

  pub next_within : from ≤ length starts → from + length found ≤ length starts
  next_within within =
      still_within from (length starts) (length (drop from starts)) (length (found ++ here.1)) (length found) (length here.1) within (ap length first_left) (length-append found here.1) (length-drop from starts)

-- no module is left after the last source
pub none_left : (sources : List (List ℕ)) (starts : List ModuleStart) (k from : ℕ) → length sources ≤ k → AreGrouped k (drop k sources) (drop from starts) → take from starts ≡ starts
none_left sources starts k from past g =
    let none : drop from starts ≡ [] = subst (λ (l : List (List ℕ)). AreGrouped k l (drop from starts)) (drop_all k sources past) g in
    sym (append-nil (take from starts)) ∙ (ap (λ (l : List ModuleStart). take from starts ++ l) (sym none) ∙ take-append-drop from starts)

-- the step of a loop over the modules of one source
pub run_more : (k : ℕ) (starts : List ModuleStart) (i : ℕ) (x : ModuleStart) (whole old new : List ModuleStart) → i < length starts → x ≡ get_or starts i x → x.source ≡ k → whole ≡ old ++ take_while (is_from k) (drop i starts)
    → new ≡ old ++ x ∷ [] → whole ≡ new ++ take_while (is_from k) (drop (i + 1) starts)
run_more k starts i x whole old new low at same before pushed =
    let tail : List ModuleStart = take_while (is_from k) (drop (i + 1) starts) in
    let front : drop i starts ≡ x ∷ drop (i + 1) starts = drop_more starts i x low ∙ ap (λ (y : ModuleStart). y ∷ drop (i + 1) starts) (sym at) in
    let taken : take_while (is_from k) (drop i starts) ≡ x ∷ tail =
    ap (take_while (is_from k)) front ∙ (take_while-cons (is_from k) x (drop (i + 1) starts) ∙ ap (λ (b : Bool). cond b (x ∷ tail) []) (eq-eqb x.source k same)) in
    before ∙ (ap (λ (l : List ModuleStart). old ++ l) taken ∙ (sym (append_assoc old (x ∷ []) tail) ∙ ap (λ (l : List ModuleStart). l ++ tail) (sym pushed)))

-- the modules of the pages, with one page more
pub starts_more : (pages more : List Page) (page : Page) (own : List Start) → more ≡ pages ++ page ∷ [] → page.modules.starts ≡ own → starts_in more ≡ starts_in pages ++ own
starts_more pages more page own pushed is =
    ap starts_in pushed ∙ (flat_map-append (λ (p : Page). p.modules.starts) pages (page ∷ []) ∙ ap (λ (l : List Start). starts_in pages ++ l) (append-nil page.modules.starts ∙ is))

-- what is at a place of a list, as its text
pub mapped_at : {X : Type 0} (xs : List X) (f : X → List ℕ) (k : ℕ) (x : X) (text : List ℕ) → k < length xs → x ≡ get_or xs k x → text ≡ f x → text ≡ get_or (map f xs) k []
mapped_at xs f k x text low is e = e ∙ (ap f is ∙ sym (get_or-map f xs k x [] low))
