-- Diagnostics that are sent one source after another.
use Rattle.std.proofs.Common.{◌≡◌, ◌⊎◌, inl, inr, nat_eq, ℕ, zero, suc, ◌+◌, ◌<◌, ◌≤◌, true, false, List, [], ◌∷◌, ◌++◌, Option, None, Some, length, map, get_or, refl, sym, ap, subst, ◌∙◌, arith}
use Rattle.std.proofs.lemmas.Bool.{eqb-true, false_from_ne_true, false≢true}
use Rattle.std.proofs.lemmas.List.{append_assoc, append-nil, get_or-map, get_or_past, length-map}
use Rattle.std.specs.Borrow.{Bor}
use Rattle.std.specs.Prelude.{option_map, string_bytes}
use Rattle.serde_json.specs.Data.{Data, array}
use Rattle.serde_json.specs.View.{items_of, view}
use Rattle.hm_lsp_values.specs.Diagnostics.{diagnostic_data}
use Rattle.serde_json.specs.declared.value.Value.{Value}
use Rattle.hm_lsp_positions.specs.declared.units.Encoding.{Encoding}
use Rattle.hm_service_messages.specs.declared.diagnostic.Diagnostic.{Diagnostic}
use Rattle.hm_service_places.specs.declared.checked.Checked.{Checked}
use Rattle.hm_service_sources.specs.declared.held.HeldSource.{HeldSource}
use Rattle.hm_service_stand_ins.specs.Findings.{Findings}
use Rattle.hm_service_stand_ins.specs.Missed.{AreMissedAt}
use Rattle.hm_lsp_server.specs.Second.{AreSecondAt, AreShownAt, findings_in}
use Rattle.hm_lsp_server.specs.declared.second.SecondCheck.{SecondCheck}
use Rattle.hm_lsp_server.specs.Published.{AreCleared, AreSent, AreTold, IsSentOf, IsTold, diagnostics_data, diagnostics_notice, shown_under}
use Rattle.hm_lsp_sources.specs.declared.source.Source.{Source}
use Rattle.hm_lsp_results.specs.Asked.{HasUri}
use Rattle.hm_lsp_results.proofs.Listed.{has_uri, map_twice}

text_in : Option (List ℕ) → List ℕ
text_in None = []
text_in (Some text) = text

pub some_apart : (a b : List ℕ) → ¬ (a ≡ b) → ¬ (Some a ≡ Some b)
unfolding text_in
some_apart a b apart same = apart (ap text_in same)

-- the diagnostics of one more source
pub one_more : (P : ℕ → Option (List ℕ) → List Data → Type 0) (n : ℕ) (old new : List (Option (List ℕ))) (shows : Option (List ℕ)) (start before after first later : List Data) → before ≡ start ++ first → AreTold P n old first → after ≡ before ++ later → P n shows later → new ≡ old ++ shows ∷ []
    → (all : List Data) × (after ≡ start ++ all) × AreTold P (n + 1) new all
one_more P n old new shows start before after first later so_far told is here pushed =
    let one : n + 1 ≡ suc n = omega arith in
    (first ++ later, is ∙ ap (λ (l : List Data). l ++ later) so_far ∙ append_assoc start first later, subst (λ k. AreTold P k new (first ++ later)) (sym one) (old, (shows, (first, (later, (pushed, (refl, (told, here))))))))

pub all_told : (P : ℕ → Option (List ℕ) → List Data → Type 0) (n m : ℕ) (shown : List (Option (List ℕ))) (sent : List Data) → n ≡ m → AreTold P n shown sent → AreTold P m shown sent
all_told P n m shown sent same h = subst (λ k. AreTold P k shown sent) same h

some_not : (ds : List (Bor Diagnostic)) → nat_eq (suc (length ds)) 0 ≡ false
some_not ds = false_from_ne_true _ (λ h. let same : suc (length ds) ≡ 0 = eqb-true (suc (length ds)) 0 h in omega (arith, same))

none_are : (ds : List (Bor Diagnostic)) → nat_eq (length ds) 0 ≡ true → ds ≡ []
none_are [] is = refl
none_are (d ∷ ds) is = absurd (false≢true (sym (some_not ds) ∙ is))

-- nothing is sent of a source without diagnostics
pub sent_none : (encoding : Encoding) (held : List HeldSource) (c : Checked) (second : Option SecondCheck) (was : Option (List ℕ)) (n : ℕ) (uri : List ℕ) (ds : List (Bor Diagnostic)) (sent : List Data) → AreShownAt held c second n (map (λ d. d.now) ds)
    → nat_eq (length ds) 0 ≡ true → ¬ (was ≡ Some uri) → (x : List Data) × (sent ≡ sent ++ x) × IsSentOf encoding held c second was n uri None x
sent_none encoding held c second was n uri ds sent found empty unshown =
    let none = none_are ds empty in
    ([], sym (append-nil sent), record { ds = []; found = subst (λ (l : List (Bor Diagnostic)). AreShownAt held c second n (map (λ d. d.now) l)) none found; are_sent = inr (unshown, refl); shows = refl })

sent_all : (encoding : Encoding) (was : Option (List ℕ)) (uri : List ℕ) (ds : List (Bor Diagnostic)) (sent : List Data) → (nat_eq (length ds) 0 ≡ false) ⊎ (was ≡ Some uri) → sent ≡ diagnostics_notice encoding uri (map (λ d. d.now) ds) ∷ []
    → AreSent encoding was uri (map (λ d. d.now) ds) sent
sent_all encoding was uri [] sent (inl some) is = absurd (false≢true (sym some))
sent_all encoding was uri [] sent (inr shown) is = inl (shown, is)
sent_all encoding was uri (d ∷ ds) sent why is = is

-- the diagnostics of a source are sent if it has some, or if the client shows some
pub sent_some : (encoding : Encoding) (held : List HeldSource) (c : Checked) (second : Option SecondCheck) (was : Option (List ℕ)) (n : ℕ) (uri : List ℕ) (ds : List (Bor Diagnostic)) (shows : Option (List ℕ)) (before after : List Data) (notice : Data)
    → AreShownAt held c second n (map (λ d. d.now) ds) → (nat_eq (length ds) 0 ≡ false) ⊎ (was ≡ Some uri) → shows ≡ shown_under uri (map (λ d. d.now) ds) → notice ≡ diagnostics_notice encoding uri (map (λ d. d.now) ds)
    → after ≡ before ++ notice ∷ [] → (x : List Data) × (after ≡ before ++ x) × IsSentOf encoding held c second was n uri shows x
sent_some encoding held c second was n uri ds shows before after notice found why shows_is notice_is sent =
    (notice ∷ [], sent, record { ds = map (λ d. d.now) ds; found = found; are_sent = sent_all encoding was uri ds (notice ∷ []) why (ap (λ x. x ∷ []) notice_is); shows = shows_is })

-- what is taken back, and what is sent then
pub told_both : (encoding : Encoding) (sources : List Source) (held : List HeldSource) (c : Checked) (second : Option SecondCheck) (was : Option (List ℕ)) (n : ℕ) (s : Source) (uri : List ℕ) (shows : Option (List ℕ)) (before between after first later : List Data) → n < length sources
    → s ≡ get_or sources n s → uri ≡ string_bytes s.uri → between ≡ before ++ first → AreCleared encoding was uri first → after ≡ between ++ later → IsSentOf encoding held c second was n uri shows later
    → (x : List Data) × (after ≡ before ++ x) × IsTold encoding sources held c second was n shows x
told_both encoding sources held c second was n s uri shows before between after first later low at named one cleared other sent = (
  first ++ later,
  other ∙ ap (λ (l : List Data). l ++ later) one ∙ append_assoc before first later,
  record { uri = uri; first = first; later = later; named = has_uri sources n s uri low at named; cleared = cleared; are_sent = sent; whole = refl },
)

-- the URI of a source in a list of all
pub shown_at : {X : Type 0} (g : X → List ℕ) (xs : List (Option X)) (n : ℕ) (o : Option X) → n < length xs → o ≡ get_or xs n o → option_map g o ≡ get_or (map (option_map g) xs) n None
shown_at g xs n o low at = ap (option_map g) at ∙ sym (get_or-map (option_map g) xs n o None low)

pub shown_past : {X : Type 0} (g : X → List ℕ) (xs : List (Option X)) (n : ℕ) → length xs ≤ n → None ≡ get_or (map (option_map g) xs) n None
shown_past g xs n high = let long = length-map xs (option_map g) in sym (get_or_past (map (option_map g) xs) n None (omega (arith, long, high)))

pub same_found : (held : List HeldSource) (c : Checked) (second : Option SecondCheck) (n : ℕ) (part found : List (Bor Diagnostic)) → part ≡ found → AreShownAt held c second n (map (λ d. d.now) found) → AreShownAt held c second n (map (λ d. d.now) part)
same_found held c second n part found same h = subst (λ l. AreShownAt held c second n (map (λ d. d.now) l)) (sym same) h

pub are_diagnostics : (encoding : Encoding) (ds : List (Bor Diagnostic)) (values : List Value) → map view values ≡ map (λ d. diagnostic_data encoding d.now) ds → array (items_of (map view values)) ≡ diagnostics_data encoding (map (λ d. d.now) ds)
are_diagnostics encoding ds values same = ap (λ l. array (items_of l)) (same ∙ sym (map_twice (diagnostic_data encoding) (λ d. d.now) ds))

-- what is shown of a second check, if there is one
pub second_none : (held : List HeldSource) (c : Checked) (o : Option (Bor SecondCheck)) (n : ℕ) (found : List Diagnostic) → o ≡ None → found ≡ [] → AreSecondAt held c (option_map (λ s. s.now) o) n found
second_none held c o n found none is = subst (λ (x : Option (Bor SecondCheck)). AreSecondAt held c (option_map (λ s. s.now) x) n found) (sym none) is

pub second_some : (held : List HeldSource) (c : Checked) (o : Option (Bor SecondCheck)) (s : Bor SecondCheck) (f : Findings) (set : List HeldSource) (told : List Diagnostic) (n : ℕ) (found : List Diagnostic) → o ≡ Some s → f ≡ findings_in c
    → set ≡ s.now.set.items → told ≡ s.now.checked.told.diagnostics.items → AreMissedAt f held set told n found → AreSecondAt held c (option_map (λ s. s.now) o) n found
second_some held c o s f set told n found some f_is set_is told_is h =
    let one = subst (λ (x : Findings). AreMissedAt x held set told n found) f_is h in
    let two = subst (λ (x : List HeldSource). AreMissedAt (findings_in c) held x told n found) set_is one in
    let three = subst (λ (x : List Diagnostic). AreMissedAt (findings_in c) held s.now.set.items x n found) told_is two in
    subst (λ (x : Option (Bor SecondCheck)). AreSecondAt held c (option_map (λ s. s.now) x) n found) (sym some) three
