-- Texts in turn, with whether the limit was told before each.
use Rattle.std.proofs.Common.{◌≡◌, Bool, false, true, ℕ, ◌+◌, ◌<◌, List, [], ◌∷◌, ◌++◌, length, map, take, get_or, inl, inr, refl, sym, ap, subst, ◌∙◌, append_assoc, append-nil}
use Rattle.std.proofs.lemmas.Bool.{false≢true}
use Rattle.std.proofs.lemmas.List.{take_more}
use Rattle.hm_types.specs.Interfaces.{Exports as Interface}
use Rattle.hm_messages_details.specs.Details.{nothing}
use Rattle.hm_names.specs.declared.faults.Fault.{Fault}
use Rattle.hm_verdicts.specs.Sets.{ModuleSet}
use Rattle.hm_verdicts.specs.Verdicts.{Status}
use Rattle.hm_messages.specs.Messages.{AreEach, IsFaultMessage, IsMessage}
use Rattle.hm_messages.specs.Subjects.{limit}
use Rattle.hm_messages.specs.declared.heading.MessageFormat.{MessageFormat}
use Rattle.hm_build_messages.specs.Explanations.{AreInTurn, IsFaultStated, IsFaultyStated, IsLimitNote, IsNoted}
use Rattle.hm_build_messages.specs.WorkedLimits.{IsAlone, LimitsRow}

-- one more at the end
turn_more : {X : Type 0} (tells : X → Bool → Bool → List ℕ → Type 0) (xs : List X) (x : X) (before between after : Bool) (text message : List ℕ)
    → AreInTurn tells xs before between text → tells x between after message → AreInTurn tells (xs ++ x ∷ []) before after (text ++ message)
turn_more tells [] x before between after text message none h =
    (message, [], after, subst (λ (b : Bool). tells x b after message) none.0 h, (refl, refl), ap (λ (l : List ℕ). l ++ message) none.1 ∙ sym (append-nil message))
turn_more tells (y ∷ ys) x before between after text message each h =
    (each.0, each.1 ++ message, each.2, each.3, turn_more tells ys x each.2 between after each.1 message each.4 h, ap (λ (l : List ℕ). l ++ message) each.5 ∙ append_assoc each.0 each.1 message)

-- the step of a loop
pub taken_turn : {X : Type 0} (tells : X → Bool → Bool → List ℕ → Type 0) (xs : List X) (i : ℕ) (d : X) (before between after : Bool) (text next message : List ℕ) → i < length xs
    → AreInTurn tells (take i xs) before between text → tells (get_or xs i d) between after message → next ≡ text ++ message → AreInTurn tells (take (i + 1) xs) before after next
taken_turn tells xs i d before between after text next message within each h e =
    subst (AreInTurn tells (take (i + 1) xs) before after) (sym e)
    (subst (λ l. AreInTurn tells l before after (text ++ message)) (sym (take_more xs i d within)) (turn_more tells (take i xs) (get_or xs i d) before between after text message each h))

-- what is so of each part for one reason is so for another
pub turn_so : {X : Type 0} (P Q : X → Bool → Bool → List ℕ → Type 0) → ((x : X) (b c : Bool) (t : List ℕ) → P x b c t → Q x b c t) → (xs : List X) (before after : Bool) (text : List ℕ)
    → AreInTurn P xs before after text → AreInTurn Q xs before after text
turn_so P Q f [] before after text h = h
turn_so P Q f (x ∷ xs) before after text h = (h.0, h.1, h.2, f x before h.2 h.0 h.3, turn_so P Q f xs h.2 after h.1 h.4, h.5)

-- the same without the limit
pub each_so : {X : Type 0} (P Q : X → List ℕ → Type 0) → ((x : X) (t : List ℕ) → P x t → Q x t) → (xs : List X) (text : List ℕ) → AreEach P xs text → AreEach Q xs text
each_so P Q f [] text h = h
each_so P Q f (x ∷ xs) text h = (h.0, h.1, f x h.0 h.2, each_so P Q f xs h.1 h.3, h.4)

-- parts of which none tells the limit
pub quiet_turn : {X : Type 0} (P : X → List ℕ → Type 0) (Q : X → Bool → Bool → List ℕ → Type 0) → ((x : X) (b : Bool) (t : List ℕ) → P x t → Q x b b t) → (xs : List X) (before : Bool) (text : List ℕ)
    → AreEach P xs text → AreInTurn Q xs before before text
quiet_turn P Q f [] before text h = (refl, h)
quiet_turn P Q f (x ∷ xs) before text h = (h.0, h.1, before, f x before h.0 h.2, quiet_turn P Q f xs before h.1 h.3, h.4)

-- the same for one truth value
pub quiet_turn_at : {X : Type 0} (P : X → List ℕ → Type 0) (Q : X → Bool → Bool → List ℕ → Type 0) (b : Bool) → ((x : X) (t : List ℕ) → P x t → Q x b b t) → (xs : List X) (text : List ℕ) → AreEach P xs text → AreInTurn Q xs b b text
quiet_turn_at P Q b f [] text h = (refl, h)
quiet_turn_at P Q b f (x ∷ xs) text h = (h.0, h.1, b, f x h.0 h.2, quiet_turn_at P Q b f xs h.1 h.3, h.4)

-- the same parts, seen through a view
pub viewed_turn : {X Y : Type 0} (view : X → Y) (tells : Y → Bool → Bool → List ℕ → Type 0) (xs : List X) (before after : Bool) (text : List ℕ)
    → AreInTurn (λ x b c t. tells (view x) b c t) xs before after text → AreInTurn tells (map view xs) before after text
viewed_turn view tells [] before after text h = h
viewed_turn view tells (x ∷ xs) before after text h = (h.0, h.1, h.2, h.3, viewed_turn view tells xs h.2 after h.1 h.4, h.5)

-- ---- the limit's note

-- nothing is told of the limit
pub same_limit : (format : MessageFormat) (file source : List ℕ) (f : Fault) (b : Bool) → IsLimitNote format file source f b b []
same_limit format file source f true = refl
same_limit format file source f false = refl

pub limit_now : (format : MessageFormat) (file source : List ℕ) (f : Fault) (before after : Bool) (text : List ℕ) → before ≡ false → after ≡ true → IsMessage format file source f.place limit text → IsLimitNote format file source f before after text
limit_now format file source f false true text b a h = h
limit_now format file source f false false text b a h = absurd (false≢true a)
limit_now format file source f true after text b a h = absurd (false≢true (sym b))

-- ---- behind the limit's note

-- the truth value stays, and each part is so
silent_turn : {X : Type 0} (P : X → Bool → Bool → List ℕ → Type 0) (Q : X → List ℕ → Type 0) → ((x : X) (c : Bool) (t : List ℕ) → P x true c t → (c ≡ true) × Q x t) → (xs : List X) (after : Bool) (text : List ℕ)
    → AreInTurn P xs true after text → (after ≡ true) × AreEach Q xs text
silent_turn P Q f [] after text h = h
silent_turn P Q f (x ∷ xs) after text h =
    let one = f x h.2 h.0 h.3 in
    let rest = silent_turn P Q f xs after h.1 (subst (λ (b : Bool). AreInTurn P xs b after h.1) one.0 h.4) in
    (rest.0, (h.0, h.1, one.1, rest.1, h.5))

not_again : (format : MessageFormat) (file source : List ℕ) (f : Fault) (after : Bool) (last : List ℕ) → IsLimitNote format file source f true after last → (after ≡ true) × (last ≡ [])
not_again format file source f true last h = (refl, h)
not_again format file source f false last h = absurd h

alone : (format : MessageFormat) (file source name : List ℕ) (fs : List Interface) (f : Fault) (after : Bool) (text : List ℕ) → IsNoted format file source name fs f true after text → (after ≡ true) × IsAlone format file source f text
alone format file source name fs f after text h =
    let again = not_again format file source f after h.last h.limited in
    let is : text ≡ h.message = h.whole ∙ (ap (λ (l : List ℕ). (h.message ++ h.notes) ++ l) again.1 ∙ (append-nil (h.message ++ h.notes) ∙ (ap (λ (l : List ℕ). h.message ++ l) (h.silent refl) ∙ append-nil h.message))) in
    (again.0, (nothing, subst (IsFaultMessage format file source f nothing) (sym is) h.says))

fault_alone : (format : MessageFormat) (file source : List ℕ) (files texts : List (List ℕ)) (p : ModuleSet) (status : ℕ → Status) (i : ℕ) (f : Fault) (after : Bool) (text : List ℕ)
    → IsFaultStated format file source files texts p status i f true after text → (after ≡ true) × IsAlone format file source f text
fault_alone format file source files texts p status i f after text (inl h) =
    let g = h.1 in
    let is : text ≡ g.message = g.whole ∙ (ap (λ (l : List ℕ). g.message ++ l) (g.silent refl) ∙ append-nil g.message) in
    (h.0, (g.says.known, subst (IsFaultMessage format file source f g.says.known) (sym is) g.says.stated))
fault_alone format file source files texts p status i f after text (inr h) = alone format file source _ h.0 f after text h.2

told_once : (format : MessageFormat) (files texts : List (List ℕ)) (source : ℕ) (p : ModuleSet) (status : ℕ → Status) (i : ℕ) (faults : List Fault) (after : Bool) (text : List ℕ)
    → IsFaultyStated format files texts source p status i faults true after text → (after ≡ true) × AreEach (IsAlone format (get_or files source []) (get_or texts source [])) faults text
told_once format files texts source p status i faults after text h =
    let file = get_or files source [] in
    let lines = get_or texts source [] in
    let rest = silent_turn (IsFaultStated format file lines files texts p status i) (IsAlone format file lines) (λ f c t k. fault_alone format file lines files texts p status i f c t k) faults after h.messages h.stated in
    let is : text ≡ h.messages = h.whole ∙ (ap (λ (l : List ℕ). h.messages ++ l) (h.silent rest.0) ∙ append-nil h.messages) in
    (rest.0, subst (AreEach (IsAlone format file lines) faults) (sym is) rest.1)

pub worked_limits : LimitsRow
worked_limits = record {
  once = told_once;
  quiet = λ format file source f. refl;
  again = λ format file source f text h. h;
}
