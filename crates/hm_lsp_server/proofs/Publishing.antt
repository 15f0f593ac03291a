-- What is published.
use Rattle.std.proofs.Common.{◌≡◌, ℕ, List, [], ◌∷◌, ◌++◌, Option, None, Some, IfSome, Result, Ok, Err, OnErr, Vec, Global, append_assoc, length, ap, refl, sym, subst, ◌∙◌}
use Rattle.std.specs.Prelude.{option_map, slice_index_or}
use Rattle.serde_json.specs.Data.{Data}
use Rattle.hm_lsp_session.specs.Documents.{listed}
use Rattle.hm_lsp_session.specs.Effects.{documents_of, encoding_of}
use Rattle.hm_lsp_session.specs.declared.documents.Document.{Document}
use Rattle.hm_lsp_sources.specs.Following.{AreFollowing}
use Rattle.hm_lsp_sources.specs.Held.{held_in, named_in}
use Rattle.hm_lsp_sources.specs.declared.following.Sources.{Sources}
use Rattle.hm_service.specs.Checks.{IsHeldCheck}
use Rattle.hm_service_places.specs.declared.checked.Checked.{Checked}
use Rattle.hm_service_sources.specs.declared.held.HeldSource.{HeldSource}
use Rattle.hm_service_stand_ins.specs.Findings.{Findings}
use Rattle.hm_service_stand_ins.specs.GoodTexts.{AreGoodAfter}
use Rattle.hm_service_stand_ins.specs.StandIns.{IsSecondSet, MissesSome}
use Rattle.hm_lsp_positions.specs.declared.units.Encoding.{Encoding}
use Rattle.hm_lsp_sources.specs.declared.source.Source.{Source}
use Rattle.hm_lsp_server.specs.Published.{AreOfCheck, AreTold, IsSameButShown, IsShown, IsTold, no_check, no_second, told}
use Rattle.hm_lsp_server.specs.Second.{AreGoodSince, IsSecondCheck, findings_in, workers}
use Rattle.hm_lsp_server.specs.declared.second.SecondCheck.{SecondCheck}
use Rattle.hm_lsp_server.specs.Servers.{IsCurrent, IsFollowing, IsOrderly, checked_of, documents_in, good_of, held_of, session_of, shown_of, sources_of}
use Rattle.hm_lsp_server.specs.declared.server.Server.{Server}

abbrev check_or : Checked → Option Checked → Checked
check_or c None = c
check_or c (Some d) = d

one_check : (o : Option Checked) (a b : Checked) → o ≡ Some a → o ≡ Some b → a ≡ b
one_check o a b p q = ap (check_or a) (sym p ∙ q)

-- the diagnostics by both checks of a server
pub told_by : (before after : Server) (c : Checked) (second other : Option SecondCheck) (encoding : Encoding) (sources : List Source) (held : List HeldSource) (checked : Checked) (was shows : List (Option (List ℕ))) (new : List Data) → checked_of after ≡ Some c
    → IsCurrent after → checked_of after ≡ Some checked → encoding ≡ encoding_of (session_of after) → sources ≡ sources_of after → held ≡ held_of after → other ≡ second → was ≡ shown_of before → shows ≡ shown_of after
    → AreTold (λ n. IsTold encoding sources held checked other (slice_index_or was n None) n) (length sources) shows new → AreOfCheck before after c second new
told_by before after c second other encoding sources held checked was shows new at current own encoding_is sources_is held_is second_is was_is shows_is h =
    let same : checked ≡ c = one_check (checked_of after) checked c own at in
    let check : IsHeldCheck workers (held_of after) c = subst (λ o. IfSome o (IsHeldCheck workers (held_of after))) at current in
    let one = subst (λ (x : Encoding). AreTold (λ n. IsTold x sources held checked other (slice_index_or was n None) n) (length sources) shows new) encoding_is h in
    let two = subst (λ (x : List Source). AreTold (λ n. IsTold (encoding_of (session_of after)) x held checked other (slice_index_or was n None) n) (length x) shows new) sources_is one in
    let three = subst (λ (x : List HeldSource). AreTold (λ n. IsTold (encoding_of (session_of after)) (sources_of after) x checked other (slice_index_or was n None) n) (length (sources_of after)) shows new) held_is two in
    let four = subst (λ (x : Checked). AreTold (λ n. IsTold (encoding_of (session_of after)) (sources_of after) (held_of after) x other (slice_index_or was n None) n) (length (sources_of after)) shows new) same three in
    let five = subst (λ (x : Option SecondCheck). AreTold (λ n. IsTold (encoding_of (session_of after)) (sources_of after) (held_of after) c x (slice_index_or was n None) n) (length (sources_of after)) shows new) second_is four in
    let six = subst (λ x. AreTold (λ n. IsTold (encoding_of (session_of after)) (sources_of after) (held_of after) c second (slice_index_or x n None) n) (length (sources_of after)) shows new) was_is five in
    let seven = subst (λ x. AreTold (λ n. IsTold (encoding_of (session_of after)) (sources_of after) (held_of after) c second (slice_index_or (shown_of before) n None) n) (length (sources_of after)) x new) shows_is six in
    record { checked = at; check = check; told = seven }

check_since : (before between after : Server) (c : Checked) (second : Option SecondCheck) (new : List Data) → shown_of between ≡ shown_of before → AreOfCheck between after c second new → AreOfCheck before after c second new
check_since before between after c second new same h = record {
  checked = h.checked;
  check = h.check;
  told = subst (λ x. AreTold (λ n. IsTold (encoding_of (session_of after)) (sources_of after) (held_of after) c second (slice_index_or x n None) n) (length (sources_of after)) (shown_of after) new) same h.told;
}

-- by another state with the same diagnostics shown
pub shown_since : (before between after : Server) (new : List Data) → shown_of between ≡ shown_of before → IsShown between after new → IsShown before after new
shown_since before between after new same (no_check none is as_before) = no_check none is (as_before ∙ same)
shown_since before between after new same (no_second {c} {rest} misses is h) = no_second misses is (check_since before between after c None rest same h)
shown_since before between after new same (told {c} {second} made h) = told made (check_since before between after c second new same h)

-- the diagnostics by both checks, after which the good texts are those of before
pub shown_by_both : (before after : Server) (c : Checked) (second : Option SecondCheck) (new : List Data) → IsSameButShown before after → IsSecondCheck (held_of before) c (good_of before) second → AreOfCheck before after c second new → IsShown before after new
shown_by_both before after c second new kept made h =
    told (subst (λ (x : List HeldSource). IsSecondCheck x c (good_of after) second) (sym kept.held) (subst (λ (x : List (Option (List ℕ))). IsSecondCheck (held_of before) c x second) (sym kept.good) made)) h

-- what the first check misses, by another state with the same sources
pub misses_since : (f : Findings) (held other : List HeldSource) → other ≡ held → MissesSome f held → MissesSome f other
misses_since f held other same h = subst (λ (x : List HeldSource). MissesSome f x) (sym same) h

-- the message that a check failed, and then other messages
pub after_notice : (start between after later : List Data) (notice : Data) → between ≡ start ++ notice ∷ [] → after ≡ between ++ later → after ≡ start ++ (notice ∷ later)
after_notice start between after later notice one other = other ∙ ap (λ (l : List Data). l ++ later) one ∙ append_assoc start (notice ∷ []) later

-- the good texts after a check
pub none_since : (held : List HeldSource) (o : Option Checked) (good : List (Option (List ℕ))) → o ≡ None → AreGoodSince held o good good
none_since held o good none = subst (λ (x : Option Checked). AreGoodSince held x good good) (sym none) refl

pub some_since : (s : Server) (c : Checked) (f : Findings) (held : List HeldSource) (was good : List (Option (List ℕ))) → checked_of s ≡ Some c → f ≡ findings_in c → held ≡ held_of s → was ≡ good_of s → AreGoodAfter f held was good
    → AreGoodSince (held_of s) (checked_of s) (good_of s) good
some_since s c f held was good at f_is held_is was_is h =
    let one = subst (λ (x : Findings). AreGoodAfter x held was good) f_is h in
    let two = subst (λ (x : List HeldSource). AreGoodAfter (findings_in c) x was good) held_is one in
    let three = subst (λ (x : List (Option (List ℕ))). AreGoodAfter (findings_in c) (held_of s) x good) was_is two in
    subst (λ (x : Option Checked). AreGoodSince (held_of s) x (good_of s) good) (sym at) three

pub good_since : (held other : List HeldSource) (o p : Option Checked) (was before good after : List (Option (List ℕ))) → other ≡ held → p ≡ o → before ≡ was → after ≡ good → AreGoodSince held o was good → AreGoodSince other p before after
good_since held other o p was before good after held_is o_is was_is good_is h =
    let one = subst (λ (x : List HeldSource). AreGoodSince x o was good) (sym held_is) h in
    let two = subst (λ (x : Option Checked). AreGoodSince other x was good) (sym o_is) one in
    let three = subst (λ (x : List (Option (List ℕ))). AreGoodSince other p x good) (sym was_is) two in
    subst (λ (x : List (Option (List ℕ))). AreGoodSince other p before x) (sym good_is) three

-- a second check isn't made, or is
pub none_made : (f : Findings) (c : Checked) (held : List HeldSource) (good : List (Option (List ℕ))) (made : Option (Vec HeldSource Global)) → f ≡ findings_in c → made ≡ None → IsSecondSet f held good (option_map (λ s. s.items) made) → IsSecondCheck held c good None
none_made f c held good made f_is none h =
    subst (λ (x : Findings). IsSecondSet x held good None) f_is (subst (λ (x : Option (Vec HeldSource Global)). IsSecondSet f held good (option_map (λ s. s.items) x)) none h)

pub some_made : (f : Findings) (c : Checked) (held : List HeldSource) (good : List (Option (List ℕ))) (made : Option (Vec HeldSource Global)) (set : Vec HeldSource Global) (sources : List HeldSource) (again : Checked) → f ≡ findings_in c → made ≡ Some set
    → IsSecondSet f held good (option_map (λ s. s.items) made) → sources ≡ set.items → IsHeldCheck workers sources again → IsSecondCheck held c good (Some (record { set = set; checked = again }))
some_made f c held good made set sources again f_is some h sources_is check = (
  subst (λ (x : Findings). IsSecondSet x held good (Some set.items)) f_is (subst (λ (x : Option (Vec HeldSource Global)). IsSecondSet f held good (option_map (λ s. s.items) x)) some h),
  subst (λ (x : List HeldSource). IsHeldCheck workers x again) sources_is check,
)

-- what the first check misses if a second one is made
pub misses_made : (f : Findings) (c : Checked) (held : List HeldSource) (good : List (Option (List ℕ))) (made : Option (Vec HeldSource Global)) (set : Vec HeldSource Global) → f ≡ findings_in c → made ≡ Some set
    → IsSecondSet f held good (option_map (λ s. s.items) made) → MissesSome (findings_in c) held
misses_made f c held good made set f_is some h =
    subst (λ (x : Findings). MissesSome x held) f_is (subst (λ (x : Option (Vec HeldSource Global)). IsSecondSet f held good (option_map (λ s. s.items) x)) some h).0

-- what holds anyhow holds after an error
pub answered : {T E P : Type 0} (r : Result T E) → P → OnErr r P
answered (Ok x) p = tt
answered (Err e) p = p

pub same_second : (held sources : List HeldSource) (c : Checked) (good was : List (Option (List ℕ))) (second : Option SecondCheck) → sources ≡ held → was ≡ good → IsSecondCheck sources c was second → IsSecondCheck held c good second
same_second held sources c good was second held_is good_is h = subst (λ (x : List HeldSource). IsSecondCheck x c good second) held_is (subst (λ (x : List (Option (List ℕ))). IsSecondCheck sources c x second) good_is h)

-- the same sources follow the same documents
pub same_following : (s t : Server) → documents_of (session_of t) ≡ documents_of (session_of s) → sources_of t ≡ sources_of s → held_of t ≡ held_of s → IsFollowing (documents_in s) s → IsFollowing (documents_in t) t
same_following s t documents sources held h =
    subst (λ x. AreFollowing x (sources_of t) (held_of t)) (ap listed (sym documents))
    (subst (λ x. AreFollowing (documents_in s) x (held_of t)) (sym sources) (subst (λ x. AreFollowing (documents_in s) (sources_of s) x) (sym held) h))

-- a server whose check is forgotten, and whose sources follow the documents
pub orderly_without : (s : Server) (documents : List Document) (x : Sources) → checked_of s ≡ None → s.sources ≡ x → documents ≡ documents_in s → AreFollowing documents (named_in x) (held_in x) → IsOrderly s
orderly_without s documents x none sources are h = record {
  current = subst (λ o. IfSome o (IsHeldCheck workers (held_of s))) (sym none) tt;
  follows = subst (λ y. AreFollowing (documents_in s) (named_in y) (held_in y)) (sym sources) (subst (λ d. AreFollowing d (named_in x) (held_in x)) are h);
}
