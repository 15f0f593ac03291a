-- Sources after one is added.
use Rattle.std.proofs.Common.{◌≡◌, inl, inr, ◌<◌, ◌≤◌, ◌+◌, ◌++◌, ◌∷◌, [], ℕ, Bool, true, false, List, All, Contains, None, Some, map, is_some, take, get_or, length, string_bytes, arith, refl, sym, ap, subst, ◌∙◌}
use Rattle.std.proofs.lemmas.Bool.{cases_lt, false≢true, not-false}
use Rattle.std.proofs.lemmas.List.{append-nil, append_assoc, get_or-map, get_or_append_left, get_or_push, length-append, length-map, map-append, take_all}
use Rattle.std.proofs.lemmas.List.Elements.{All-more, All-weaker, Contains-append_left, Contains-append_right, Contains-get_or}
use Rattle.std.proofs.lemmas.Slice.Eq.{bytes_eq-Decides}
use Rattle.std.specs.Str.{bytes_eq}
use Rattle.percent_encoding.specs.Percent.{percent_decode}
use Rattle.hm_lsp_session.specs.declared.documents.Document.{Document}
use Rattle.hm_lsp_sources.specs.Following.{AreFollowing, AreKept, HasSource, IsFollowing, IsFollowingIn, files_in, last_open, names_in}
use Rattle.hm_lsp_sources.specs.Held.{held_in, named_in}
use Rattle.hm_lsp_sources.specs.Names.{IsNumberOf}
use Rattle.hm_lsp_sources.specs.Steps.{AreNamed, IsAsBefore, IsGrown, IsPushed}
use Rattle.hm_lsp_sources.specs.declared.following.Sources.{Sources}
use Rattle.hm_lsp_sources.specs.declared.source.Source.{Source}
use Rattle.hm_service_sources.specs.declared.held.HeldSource.{HeldSource}

abbrev pub name_text : Source → List ℕ
name_text s = s.name.items

abbrev pub file_text : Source → List ℕ
file_text s = s.file.items

in_name : (sources : List Source) (name : List ℕ) (n : ℕ) → IsNumberOf sources name (Some n) → Contains (names_in sources) name
in_name [] name n (low, before, here) = absurd (omega (arith, low))
in_name (s ∷ ss) name n (low, before, here) =
    let sources : List Source = s ∷ ss in
    let found : (get_or sources n s).name.items ≡ name = (bytes_eq-Decides (get_or sources n s).name.items name).0 (not-false (bytes_eq (get_or sources n s).name.items name) (here s)) in
    let at : get_or (names_in sources) n (name_text s) ≡ name = get_or-map name_text sources n s (name_text s) low ∙ found in
    subst (Contains (names_in sources)) at (Contains-get_or (names_in sources) n (name_text s) (subst (λ k. n < k) (sym (length-map sources name_text)) low))

nothing_kept : (sources : List Source) → AreKept sources sources
nothing_kept sources = record { added = []; names = sym (append-nil (names_in sources)); files = sym (append-nil (files_in sources)) }

pub not_grown : (P : Type 0) (before : Sources) → P → IsGrown P false before before
not_grown P before h = record { holds = h; kept = nothing_kept (named_in before); named = λ x. x; same = λ x. record { named = refl; held = refl } }

pub not_missing : (d : Document) (uri name : List ℕ) (n : ℕ) (before : Sources) → uri ≡ string_bytes d.uri → name ≡ percent_decode uri → IsNumberOf (named_in before) name (Some n)
    → IsGrown (HasSource (named_in before) d) false before before
not_missing d uri name n before is own h =
    not_grown (HasSource (named_in before) d) before (λ x. subst (Contains (names_in (named_in before))) (own ∙ ap percent_decode is) (in_name (named_in before) name n h))

pub not_open : (d : Document) (before : Sources) → d.text ≡ None → IsGrown (HasSource (named_in before) d) false before before
not_open d before closed = not_grown (HasSource (named_in before) d) before (λ x. absurd (false≢true (sym (ap is_some closed) ∙ x)))

-- what holds of each member holds of each after one more
each_pushed : {A : Type 0} (P : A → Type 0) (xs : List A) (x : A) → ((n : ℕ) (d : A) → n < length xs → P (get_or xs n d)) → P x → (n : ℕ) (d : A) → n < length (xs ++ x ∷ []) → P (get_or (xs ++ x ∷ []) n d)
each_pushed P xs x each own n d low = elim (cases_lt n (length xs)) [
  | inl inside ↦ subst P (sym (get_or_append_left xs (x ∷ []) d n inside)) (each n d inside)
  | inr last ↦ subst P (sym (get_or_push xs x d n (omega (arith, last, subst (λ k. n < k) (length-append xs (x ∷ [])) low)))) own
]

many_pushed : (uri file : List ℕ) (before after : Sources) → IsPushed uri file before after → length (held_in before) ≡ length (named_in before) → length (held_in after) ≡ length (named_in after)
many_pushed uri file before after p same =
    ap length p.held ∙ length-append (held_in before) (p.h ∷ []) ∙ ap (λ k. k + 1) same ∙ sym (ap length p.named ∙ length-append (named_in before) (p.s ∷ []))

abbrev IsNamed : Source → Type 0
IsNamed s = s.name.items ≡ percent_decode (string_bytes s.uri)

pub named_pushed : (uri file : List ℕ) (before after : Sources) → IsPushed uri file before after → AreNamed (named_in before) (held_in before) → AreNamed (named_in after) (held_in after)
named_pushed uri file before after p own = record {
  as_many = many_pushed uri file before after p own.as_many;
  each = λ n d low. subst (λ l. IsNamed (get_or l n d)) (sym p.named)
      (each_pushed IsNamed (named_in before) p.s own.each (p.name_is ∙ ap percent_decode (sym p.uri_is)) n d (subst (λ l. n < length l) p.named low));
}

pub names_pushed : (uri file : List ℕ) (before after : Sources) → IsPushed uri file before after → names_in (named_in after) ≡ names_in (named_in before) ++ percent_decode uri ∷ []
names_pushed uri file before after p =
    ap names_in p.named ∙ map-append name_text (named_in before) (p.s ∷ []) ∙ ap (λ (x : List ℕ). names_in (named_in before) ++ x ∷ []) p.name_is

pub files_pushed : (uri file : List ℕ) (before after : Sources) → IsPushed uri file before after → files_in (named_in after) ≡ files_in (named_in before) ++ file ∷ []
files_pushed uri file before after p =
    ap files_in p.named ∙ map-append file_text (named_in before) (p.s ∷ []) ∙ ap (λ (x : List ℕ). files_in (named_in before) ++ x ∷ []) p.file_is

last_of : (xs : List (List ℕ)) (x : List ℕ) → Contains (xs ++ x ∷ []) x
last_of xs x = Contains-append_right xs (x ∷ []) x (Contains-get_or (x ∷ []) 0 x (omega arith))

-- an open document is a source now
pub grown : (d : Document) (uri : List ℕ) (before after : Sources) → uri ≡ string_bytes d.uri → IsPushed uri [] before after → IsGrown (HasSource (named_in after) d) true before after
grown d uri before after is p = record {
  holds = λ x. subst (λ l. Contains l (percent_decode (string_bytes d.uri))) (sym (names_pushed uri [] before after p))
      (subst (λ u. Contains (names_in (named_in before) ++ percent_decode uri ∷ []) (percent_decode u)) is (last_of (names_in (named_in before)) (percent_decode uri)));
  kept = record { added = percent_decode uri ∷ []; names = names_pushed uri [] before after p; files = files_pushed uri [] before after p };
  named = named_pushed uri [] before after p;
  same = λ x. absurd (false≢true (sym x));
}

alone : (ds : List Document) (uri file : List ℕ) (s : Source) (h : HeldSource) → string_bytes s.uri ≡ uri → s.name.items ≡ percent_decode uri → s.file.items ≡ file → h.text.items ≡ file → last_open ds (percent_decode uri) ≡ None
    → IsFollowingIn ds s h
alone ds uri file s h uri_is name_is file_is text_is none =
    let nothing : None ≡ last_open ds s.name.items = sym (ap (last_open ds) name_is ∙ none) in
    subst (λ o. IsFollowing o s h) nothing (record { named = name_is ∙ ap percent_decode (sym uri_is); text = text_is ∙ sym file_is; uri = tt })

following_each : (ds : List Document) (before : Sources) (s : Source) (h : HeldSource) → AreFollowing ds (named_in before) (held_in before) → IsFollowingIn ds s h → (n : ℕ) (d : Source) (e : HeldSource) → n < length (named_in before ++ s ∷ [])
    → IsFollowingIn ds (get_or (named_in before ++ s ∷ []) n d) (get_or (held_in before ++ h ∷ []) n e)
following_each ds before s h own one n d e low = elim (cases_lt n (length (named_in before))) [
  | inl inside ↦
      subst (λ x. IsFollowingIn ds x (get_or (held_in before ++ h ∷ []) n e)) (sym (get_or_append_left (named_in before) (s ∷ []) d n inside))
      (subst (λ x. IsFollowingIn ds (get_or (named_in before) n d) x) (sym (get_or_append_left (held_in before) (h ∷ []) e n (subst (λ k. n < k) (sym own.as_many) inside))) (own.each n d e inside))
  | inr last ↦
      let at : length (named_in before) ≡ n = omega (arith, last, subst (λ k. n < k) (length-append (named_in before) (s ∷ [])) low) in
      subst (λ x. IsFollowingIn ds x (get_or (held_in before ++ h ∷ []) n e)) (sym (get_or_push (named_in before) s d n at))
      (subst (λ x. IsFollowingIn ds s x) (sym (get_or_push (held_in before) h e n (own.as_many ∙ at))) one)
]

-- a source of a file follows its documents, if none of its name is open
pub following_pushed : (uri file : List ℕ) (before after : Sources) → IsPushed uri file before after → (ds : List Document) → AreFollowing ds (named_in before) (held_in before) → last_open ds (percent_decode uri) ≡ None
    → AreFollowing ds (named_in after) (held_in after)
following_pushed uri file before after p ds own none = record {
  as_many = many_pushed uri file before after p own.as_many;
  each = λ n s h low. subst (λ l. IsFollowingIn ds (get_or l n s) (get_or (held_in after) n h)) (sym p.named) (subst (λ l. IsFollowingIn ds (get_or (named_in before ++ p.s ∷ []) n s) (get_or l n h)) (sym p.held)
      (following_each ds before p.s p.h own (alone ds uri file p.s p.h p.uri_is p.name_is p.file_is p.text_is none) n s h (subst (λ l. n < length l) p.named low)));
  known = All-weaker (HasSource (named_in before)) (HasSource (named_in after))
      (λ d has is. subst (λ l. Contains l (percent_decode (string_bytes d.uri))) (sym (names_pushed uri file before after p)) (Contains-append_left (names_in (named_in before)) (percent_decode uri ∷ []) (percent_decode (string_bytes d.uri)) (has is)))
      ds own.known;
}

kept_again : (first second third : List Source) → AreKept first second → AreKept second third → AreKept first third
kept_again first second third one two = record {
  added = one.added ++ two.added;
  names = two.names ∙ ap (λ (l : List (List ℕ)). l ++ two.added) one.names ∙ append_assoc (names_in first) one.added two.added;
  files = two.files ∙ ap (λ (l : List (List ℕ)). l ++ map nothing two.added) one.files ∙ append_assoc (files_in first) (map nothing one.added) (map nothing two.added)
      ∙ ap (λ (l : List (List ℕ)). files_in first ++ l) (sym (map-append nothing one.added two.added));
}
  where
    nothing : List ℕ → List ℕ
    nothing name = []

still_there : (before after : List Source) (d : Document) → AreKept before after → HasSource before d → HasSource after d
still_there before after d kept has is =
    subst (λ l. Contains l (percent_decode (string_bytes d.uri))) (sym kept.names) (Contains-append_left (names_in before) kept.added (percent_decode (string_bytes d.uri)) (has is))

-- the step of the walk that adds sources
pub grown_more : (ds : List Document) (i : ℕ) (d : Document) (was is next : Bool) (before between after : Sources) → i < length ds → d ≡ get_or ds i d → IsGrown (All (HasSource (named_in between)) (take i ds)) was before between
    → IsGrown (HasSource (named_in after) d) is between after → (next ≡ false → (was ≡ false) × (is ≡ false)) → IsGrown (All (HasSource (named_in after)) (take (i + 1) ds)) next before after
grown_more ds i d was is next before between after low at one two both = record {
  holds = All-more (HasSource (named_in after)) ds i d low (All-weaker (HasSource (named_in between)) (HasSource (named_in after)) (λ e has. still_there (named_in between) (named_in after) e two.kept has) (take i ds) one.holds)
      (subst (HasSource (named_in after)) at two.holds);
  kept = kept_again (named_in before) (named_in between) (named_in after) one.kept two.kept;
  named = λ h. two.named (one.named h);
  same = λ h. as_first before between after (one.same (both h).0) (two.same (both h).1);
}
  where
    as_first : (first second third : Sources) → IsAsBefore first second → IsAsBefore second third → IsAsBefore first third
    as_first first second third a b = record { named = b.named ∙ a.named; held = b.held ∙ a.held }

pub grown_whole : (ds : List Document) (i : ℕ) (is : Bool) (before after : Sources) → length ds ≤ i → IsGrown (All (HasSource (named_in after)) (take i ds)) is before after → IsGrown (All (HasSource (named_in after)) ds) is before after
grown_whole ds i is before after ends h = subst (λ l. IsGrown (All (HasSource (named_in after)) l) is before after) (take_all i ds ends) h
