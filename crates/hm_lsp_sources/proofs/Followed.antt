-- Sources after one follows a document.
use Rattle.std.proofs.Common.{if◌then◌else◌, ◌≡◌, ◌≢◌, ◌⊎◌, inl, inr, ◌<◌, ◌+◌, ◌∷◌, [], ℕ, Bool, false, List, All, Contains, IfSome, Option, None, Some, option_map, is_some, set, get_or, length, string_bytes, arith, refl, sym, ap, subst, ◌∙◌, Bor}
use Rattle.std.proofs.Math.ListN.{get_or-map as mapped_at}
use Rattle.std.proofs.Math.Nat.{eq-or-lt_of_le}
use Rattle.std.proofs.Math.Seq.{map-set_same}
use Rattle.std.proofs.lemmas.Bool.{and_parts, cond-false, cond-true, cases_Bool}
use Rattle.std.proofs.lemmas.List.{get_or-set_other, get_or-set_same, get_or_default, length-map, length-set, set-get_or}
use Rattle.std.proofs.lemmas.List.Elements.{All-weaker}
use Rattle.std.proofs.lemmas.Slice.Eq.{bytes_eq-Decides}
use Rattle.std.specs.Str.{bytes_eq}
use Rattle.percent_encoding.specs.Percent.{percent_decode}
use Rattle.hm_lsp_session.specs.declared.documents.Document.{Document}
use Rattle.hm_lsp_sources.specs.Following.{AreFollowing, AreKept, HasSource, HasText, IsFollowing, IsFollowingIn, files_in, is_open_as, last_open, names_in, or_else}
use Rattle.hm_lsp_sources.specs.Held.{held_in, named_in}
use Rattle.hm_lsp_sources.specs.Steps.{AreNamed, IsAsBefore, IsFollowedAt, IsFollowedBelow, IsGrown, IsNameOf}
use Rattle.hm_lsp_sources.specs.declared.following.Sources.{Sources}
use Rattle.hm_lsp_sources.specs.declared.source.Source.{Source}
use Rattle.hm_lsp_sources.proofs.Grown.{file_text, name_text}
use Rattle.hm_service_sources.specs.declared.held.HeldSource.{HeldSource}

abbrev pub now : Option (Bor Document) → Option Document
now o = option_map (λ d. d.now) o

-- the source has the URI of the document, or its own if there is none
abbrev pub HasUri : Option Document → Source → Source → Type 0
HasUri None s t = t.uri ≡ s.uri
HasUri (Some d) s t = string_bytes t.uri ≡ string_bytes d.uri

pub uri_by : (o : Option (Bor Document)) (s t : Source) → IfSome o (λ d. string_bytes t.uri ≡ string_bytes d.now.uri) → (o ≡ None → t.uri ≡ s.uri) → HasUri (now o) s t
uri_by None s t one two = two refl
uri_by (Some d) s t one two = one

following_by : (o : Option Document) (s t : Source) (h : HeldSource) → t.name ≡ s.name → t.file ≡ s.file → HasUri o s t → HasText s.file.items o h.text.items → IsNameOf o s → IsFollowing o t h
following_by None s t h name file uri text own = record {
  named = ap (λ x. x.items) name ∙ own ∙ ap (λ u. percent_decode (string_bytes u)) (sym uri);
  text = text ∙ ap (λ x. x.items) (sym file);
  uri = tt;
}
following_by (Some d) s t h name file uri text own = record {
  named = ap (λ x. x.items) name ∙ own ∙ ap percent_decode (sym uri);
  text = text;
  uri = uri;
}

-- the source at a place is exchanged, and its text
pub followed_at : (o : Option Document) (n : ℕ) (is : Bool) (before after : Sources) (t : Source) (h : HeldSource) → named_in after ≡ set (named_in before) n t → held_in after ≡ set (held_in before) n h
    → n < length (named_in before) → n < length (held_in before) → (s : Source) (e : HeldSource) → s ≡ get_or (named_in before) n s → e ≡ get_or (held_in before) n e → t.name ≡ s.name → t.file ≡ s.file → HasUri o s t
    → HasText s.file.items o h.text.items → (is ≡ false → (t ≡ s) × (h ≡ e)) → IsFollowedAt o n is before after
followed_at o n is before after t h named held low below s e at_s at_e name file uri text same = record {
  names = ap names_in named ∙ map-set_same name_text (named_in before) n t s (ap (λ x. x.items) name ∙ ap name_text at_s);
  files = ap files_in named ∙ map-set_same file_text (named_in before) n t s (ap (λ x. x.items) file ∙ ap file_text at_s);
  as_many = ap length held ∙ length-set (held_in before) n h;
  own = λ low1 low2 d z own.
      subst (λ k. IsFollowing o k (get_or (held_in after) n z)) (sym (ap (λ l. get_or l n d) named ∙ get_or-set_same (named_in before) n t d low))
      (subst (λ k. IsFollowing o t k) (sym (ap (λ l. get_or l n z) held ∙ get_or-set_same (held_in before) n h z below))
      (following_by o s t h name file uri text (subst (IsNameOf o) (get_or_default (named_in before) n d s low ∙ sym at_s) own)));
  other_named = λ k d apart. ap (λ l. get_or l k d) named ∙ get_or-set_other (named_in before) n k t d apart;
  other_held = λ k d apart. ap (λ l. get_or l k d) held ∙ get_or-set_other (held_in before) n k h d apart;
  same = λ x. record {
    named = named ∙ ap (set (named_in before) n) ((same x).0 ∙ at_s) ∙ set-get_or (named_in before) n s;
    held = held ∙ ap (set (held_in before) n) ((same x).1 ∙ at_e) ∙ set-get_or (held_in before) n e;
  };
}

-- the last open document of a name has it
opened_one : (d e : Document) (name : List ℕ) (o : Option Document) → o ≡ (if is_open_as name d then Some d else None) → o ≡ Some e → percent_decode (string_bytes e.uri) ≡ name
opened_one d e name o is at = elim (cases_Bool (is_open_as name d)) [
  | inl shown ↦
      let same : Some d ≡ Some e = sym (is ∙ cond-true _ _ _ shown) ∙ at in
      let one : d ≡ e = cc in
      ap (λ (x : Document). percent_decode (string_bytes x.uri)) (sym one) ∙ (bytes_eq-Decides (percent_decode (string_bytes d.uri)) name).0 (and_parts (is_some d.text) (bytes_eq (percent_decode (string_bytes d.uri)) name) shown).1
  | inr closed ↦
      let same : None ≡ Some e = sym (is ∙ cond-false _ _ _ closed) ∙ at in
      absurd cc
]

either : (a b : Option Document) (e : Document) → or_else a b ≡ Some e → (a ≡ Some e) ⊎ (b ≡ Some e)
either None b e is = inr is
either (Some d) b e is = inl is

pub opened_as : (ds : List Document) (name : List ℕ) (e : Document) → last_open ds name ≡ Some e → percent_decode (string_bytes e.uri) ≡ name
opened_as [] name e is = absurd cc
opened_as (d ∷ ds) name e is = elim (either (last_open ds name) (if is_open_as name d then Some d else None) e is) [
  | inl later ↦ opened_as ds name e later
  | inr here ↦ opened_one d e name (if is_open_as name d then Some d else None) refl here
]

-- the name at a place
same_name : (xs ys : List Source) (n : ℕ) (s : Source) → names_in ys ≡ names_in xs → (get_or ys n s).name.items ≡ (get_or xs n s).name.items
same_name xs ys n s same = sym (mapped_at name_text ys n s) ∙ ap (λ l. get_or l n (name_text s)) same ∙ mapped_at name_text xs n s

is_name_of : (ds : List Document) (s : Source) → s.name.items ≡ percent_decode (string_bytes s.uri) → (o : Option Document) → o ≡ last_open ds s.name.items → IsNameOf o s
is_name_of ds s own None is = own
is_name_of ds s own (Some d) is = sym (opened_as ds s.name.items d (sym is))

pub same_length : (xs ys : List Source) → names_in ys ≡ names_in xs → length ys ≡ length xs
same_length xs ys same = sym (length-map ys name_text) ∙ ap length same ∙ length-map xs name_text

own_more : (ds : List Document) (n : ℕ) (was is : Bool) (o : Option Document) (before between after : Sources) (d s : Source) (h : HeldSource) → n < length (named_in between) → AreNamed (named_in before) (held_in before)
    → n < length (named_in before) → IsFollowedBelow ds n was before between → o ≡ last_open ds (get_or (named_in between) n d).name.items → IsFollowedAt o n is between after
    → IsFollowingIn ds (get_or (named_in after) n s) (get_or (held_in after) n h)
own_more ds n was is o before between after d s h low named inside one at two =
    let x : Source = get_or (named_in between) n s in
    let as_now : o ≡ last_open ds x.name.items = at ∙ ap (λ (y : Source). last_open ds y.name.items) (get_or_default (named_in between) n d s low) in
    let own : x.name.items ≡ percent_decode (string_bytes x.uri) = subst (λ (y : Source). y.name.items ≡ percent_decode (string_bytes y.uri)) (sym (one.above_named n s (omega arith))) (named.each n s inside) in
    let below : n < length (held_in between) = subst (λ k. n < k) (sym (one.as_many ∙ named.as_many)) inside in
    subst (λ p. IsFollowing p (get_or (named_in after) n s) (get_or (held_in after) n h)) (as_now ∙ ap (last_open ds) (sym (same_name (named_in between) (named_in after) n s two.names)))
    (two.own low below s h (is_name_of ds x own o as_now))

-- the step of the walk in which sources follow
pub below_more : (ds : List Document) (n : ℕ) (was is next : Bool) (o : Option Document) (before between after : Sources) (d : Source) → n < length (named_in between) → IsFollowedBelow ds n was before between
    → o ≡ last_open ds (get_or (named_in between) n d).name.items → IsFollowedAt o n is between after → (next ≡ false → (was ≡ false) × (is ≡ false)) → IsFollowedBelow ds (n + 1) next before after
below_more ds n was is next o before between after d low one at two both = record {
  names = two.names ∙ one.names;
  files = two.files ∙ one.files;
  as_many = two.as_many ∙ one.as_many;
  below = λ named k s h less inside. elim (eq-or-lt_of_le (omega (arith, less))) [
    | inl last ↦ subst (λ m. IsFollowingIn ds (get_or (named_in after) m s) (get_or (held_in after) m h)) (sym last) (own_more ds n was is o before between after d s h low named (subst (λ m. m < length (named_in before)) last inside) one at two)
    | inr earlier ↦
        let apart : k ≢ n = λ e. omega (arith, e, earlier) in
        subst (λ x. IsFollowingIn ds x (get_or (held_in after) k h)) (sym (two.other_named k s apart))
        (subst (λ x. IsFollowingIn ds (get_or (named_in between) k s) x) (sym (two.other_held k h apart)) (one.below named k s h earlier inside))
  ];
  above_named = λ k s past. two.other_named k s (λ e. omega (arith, e, past)) ∙ one.above_named k s (omega (arith, past));
  above_held = λ k h past. two.other_held k h (λ e. omega (arith, e, past)) ∙ one.above_held k h (omega (arith, past));
  same = λ x. as_first before between after (one.same (both x).0) (two.same (both x).1);
}
  where
    as_first : (first second third : Sources) → IsAsBefore first second → IsAsBefore second third → IsAsBefore first third
    as_first first second third a b = record { named = b.named ∙ a.named; held = b.held ∙ a.held }

first_held : (held : List HeldSource) (n : ℕ) → n < length held → HeldSource
first_held [] n low = absurd (omega (arith, low))
first_held (h ∷ hs) n low = h

-- sources that follow documents have the names of their URIs
pub named_of : (ds : List Document) (sources : List Source) (held : List HeldSource) → AreFollowing ds sources held → AreNamed sources held
named_of ds sources held own = record { as_many = own.as_many; each = λ n s low. (own.each n s (first_held held n (subst (λ k. n < k) (sym own.as_many) low)) low).named }

-- all sources follow the documents
pub all_follow : (ds : List Document) (added others : Bool) (before between after : Sources) → IsGrown (All (HasSource (named_in between)) ds) added before between → IsFollowedBelow ds (length (named_in between)) others between after
    → AreNamed (named_in before) (held_in before) → AreFollowing ds (named_in after) (held_in after)
all_follow ds added others before between after one two own =
    let named : AreNamed (named_in between) (held_in between) = one.named own in
    let same : length (named_in after) ≡ length (named_in between) = same_length (named_in between) (named_in after) two.names in
    record {
      as_many = two.as_many ∙ named.as_many ∙ sym same;
      each = λ n s h low. two.below named n s h (subst (λ k. n < k) same low) (subst (λ k. n < k) same low);
      known = All-weaker (HasSource (named_in between)) (HasSource (named_in after)) (λ d has is. subst (λ l. Contains l (percent_decode (string_bytes d.uri))) (sym two.names) (has is)) ds one.holds;
    }

pub all_kept : (P : Type 0) (ds : List Document) (n : ℕ) (added others : Bool) (before between after : Sources) → IsGrown P added before between → IsFollowedBelow ds n others between after → AreKept (named_in before) (named_in after)
all_kept P ds n added others before between after one two = record { added = one.kept.added; names = two.names ∙ one.kept.names; files = two.files ∙ one.kept.files }
