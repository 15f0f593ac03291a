-- What is found for a module is so of the set.
use Rattle.std.proofs.Common.{◌≡◌, ℕ, List, ◌++◌, IfSome, None, Option, Some, subst, sym}
use Rattle.std.specs.Prelude.{codes}
use Rattle.hm_lex.specs.declared.token.Place.{Place}
use Rattle.hm_types.specs.declared.Entity.{Entity}
use Rattle.hm_types.specs.Interfaces.{Exports as Interface}
use Rattle.hm_uses.specs.Mentions.{Mention}
use Rattle.hm_messages_here.specs.TypesHere.{HasSchemeHere, HasTypeAt}
use Rattle.hm_verdicts.specs.Reports.{name_of_module}
use Rattle.hm_build_places.specs.Known.{IsNumberOf, Known}
use Rattle.hm_build_place_texts.specs.Facts.{TypeThere}
use Rattle.hm_build_places.specs.TypesAt.{HasOwnScheme, IsOwner, IsRead, IsTypeThere, IsTypedAt, place_of, qualifier_text}

-- what is so of what is found
pub found_so : {X : Type 0} (P Q : X → Type 0) (o : Option X) → ((x : X) → P x → Q x) → IfSome o P → IfSome o Q
found_so P Q None f h = tt
found_so P Q (Some x) f h = f x h

pub typed_at : (k : Known) (i : ℕ) (m : Mention) (whole source name : List ℕ) (fs gs : List Interface) (place : Place) (text definition own here : List ℕ)
    → source ≡ whole → name ≡ name_of_module k.set i → gs ≡ fs → place ≡ place_of m.name → text ≡ qualifier_text m.name.qualifier ++ m.name.text → IsRead k i whole fs
    → HasTypeAt source name gs place text definition own here → IsTypedAt k i m definition own here
typed_at k i m whole source name fs gs place text definition own here s n g p t read h = record {
  whole = whole;
  interfaces = fs;
  read = read;
  typed = subst (λ x. HasTypeAt whole (name_of_module k.set i) fs (place_of m.name) x definition own here) t
      (subst (λ x. HasTypeAt whole (name_of_module k.set i) fs x text definition own here) p
      (subst (λ x. HasTypeAt whole (name_of_module k.set i) x place text definition own here) g
      (subst (λ x. HasTypeAt whole x gs place text definition own here) n
      (subst (λ x. HasTypeAt x name gs place text definition own here) s h))));
}

-- the type with the definition that it is in
pub type_with_owner : (k : Known) (i : ℕ) (m : Mention) (definition own here : List ℕ) (t : TypeThere) → t.text ≡ here → IsTypedAt k i m definition own here → IsOwner definition own t.owner → IsTypeThere k i m t
type_with_owner k i m definition own here t same at owner = record {
  definition = definition;
  own = own;
  typed = subst (λ x. IsTypedAt k i m definition own x) (sym same) at;
  owned = owner;
}

pub own_scheme_of : (k : Known) (e : Entity) (i : ℕ) (whole source name : List ℕ) (fs gs : List Interface) (variable text : List ℕ)
    → source ≡ whole → name ≡ name_of_module k.set i → gs ≡ fs → variable ≡ e.«module» ++ (codes "." ++ e.name) → IsNumberOf k e.«module» i → IsRead k i whole fs
    → HasSchemeHere source name gs variable text → HasOwnScheme k e text
own_scheme_of k e i whole source name fs gs variable text s n g v named read h = record {
  number = i;
  named = named;
  whole = whole;
  interfaces = fs;
  read = read;
  scheme = subst (λ x. HasSchemeHere whole (name_of_module k.set i) fs x text) v
      (subst (λ x. HasSchemeHere whole (name_of_module k.set i) x variable text) g
      (subst (λ x. HasSchemeHere whole x gs variable text) n
      (subst (λ x. HasSchemeHere x name gs variable text) s h)));
}
