-- The last open document of a name, as a walk finds it.
use Rattle.std.proofs.Common.{◌≡◌, ◌⊎◌, inl, inr, ◌<◌, ◌+◌, ◌++◌, ◌∷◌, [], ℕ, true, false, List, Option, None, Some, Vec, map, take, get_or, length, string_bytes, if◌then◌else◌, refl, sym, ap, ◌∙◌}
use Rattle.std.specs.declared.alloc.Global.{Global}
use Rattle.std.proofs.Math.ListN.{get_or-map as mapped_at}
use Rattle.std.proofs.lemmas.Bool.{cond-false, cond-true}
use Rattle.std.proofs.lemmas.List.{get_or-map, take_more}
use Rattle.percent_encoding.specs.Percent.{percent_decode}
use Rattle.hm_lsp_session.specs.declared.documents.Document.{Document}
use Rattle.hm_lsp_sources.specs.Following.{is_open_as, last_open, or_else}

or_none : (o : Option Document) → or_else o None ≡ o
or_none None = refl
or_none (Some d) = refl

or_thrice : (a b c : Option Document) → or_else (or_else a b) c ≡ or_else a (or_else b c)
or_thrice None b c = refl
or_thrice (Some d) b c = refl

abbrev one : Document → List ℕ → Option Document
one d name = if is_open_as name d then Some d else None

last_added : (ds : List Document) (d : Document) (name : List ℕ) → last_open (ds ++ (d ∷ [])) name ≡ or_else (one d name) (last_open ds name)
last_added [] d name = sym (or_none (one d name))
last_added (e ∷ ds) d name = ap (λ (o : Option Document). or_else o (one e name)) (last_added ds d name) ∙ or_thrice (one d name) (last_open ds name) (one e name)

pub last_more : (ds : List Document) (i : ℕ) (d : Document) (name : List ℕ) → i < length ds → last_open (take (i + 1) ds) name ≡ or_else (one (get_or ds i d) name) (last_open (take i ds) name)
last_more ds i d name low = ap (λ (l : List Document). last_open l name) (take_more ds i d low) ∙ last_added (take i ds) (get_or ds i d) name

-- the name of the document with the same number
pub name_at : (names : List (Vec ℕ Global)) (ds : List Document) (i : ℕ) (n : Vec ℕ Global) (d : Document) → map (λ n. n.items) names ≡ map (λ d. percent_decode (string_bytes d.uri)) ds → i < length ds
    → n ≡ get_or names i n → d ≡ get_or ds i d → n.items ≡ percent_decode (string_bytes d.uri)
name_at names ds i n d same low own at =
    let f : Vec ℕ Global → List ℕ = λ n. n.items in
    let g : Document → List ℕ = λ d. percent_decode (string_bytes d.uri) in
    ap f own ∙ sym (mapped_at f names i n) ∙ ap (λ (l : List (List ℕ)). get_or l i (f n)) same ∙ get_or-map g ds i d (f n) low ∙ ap g (sym at)

-- the step of the walk
pub found_more : (ds : List Document) (i : ℕ) (d : Document) (name : List ℕ) (found next : Option Document) → i < length ds → d ≡ get_or ds i d → found ≡ last_open (take i ds) name
    → ((is_open_as name d ≡ true) × (next ≡ Some d)) ⊎ ((is_open_as name d ≡ false) × (next ≡ found)) → next ≡ last_open (take (i + 1) ds) name
found_more ds i d name found next low at before step =
    let here : last_open (take (i + 1) ds) name ≡ or_else (one d name) (last_open (take i ds) name) = last_more ds i d name low ∙ ap (λ (e : Document). or_else (one e name) (last_open (take i ds) name)) (sym at) in
    elim step [
      | inl (shown, is) ↦ is ∙ sym (here ∙ ap (λ (o : Option Document). or_else o (last_open (take i ds) name)) (cond-true _ _ _ shown))
      | inr (closed, is) ↦ is ∙ before ∙ sym (here ∙ ap (λ (o : Option Document). or_else o (last_open (take i ds) name)) (cond-false _ _ _ closed))
    ]
