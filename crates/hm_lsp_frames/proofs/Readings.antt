-- A stream has one reading.
use Rattle.std.proofs.Common.{◌≡◌, ℕ, zero, suc, ◌+◌, ◌<◌, List, [], ◌∷◌, ◌++◌, Option, Some, None, length, refl, sym, ap, subst, ◌∙◌, arith}
use Rattle.hm_lsp_frames.specs.Frames.{Item, Reads, done, more, first_frame}
use Rattle.hm_lsp_frames.proofs.Parts.{frame_again, frame_shorter, not_none, same_item, same_rest}

pub one_reading : (stream rest end : List ℕ) (items others : List Item) → Reads stream items rest → Reads stream others end → (items ≡ others) × (rest ≡ end)
one_reading stream rest end items others (done none) (done again) = (refl, refl)
one_reading stream rest end items others (done none) (more {rest = r} {item = i} first later) = absurd (not_none (i, r) (sym none ∙ first))
one_reading stream rest end items others (more {rest = r} {item = i} first later) (done none) = absurd (not_none (i, r) (sym none ∙ first))
one_reading stream rest end items others (more {rest = r} {item = i} {items = is} first later) (more {rest = q} {item = j} {items = js} other after) =
    let both = sym first ∙ other in
    let tails = one_reading r rest end is js later (subst (λ (x : List ℕ). Reads x js end) (sym (same_rest i j r q both)) after) in
    (ap (λ (x : Item). x ∷ is) (same_item i j r q both) ∙ ap (λ (xs : List Item). j ∷ xs) tails.0, tails.1)

-- a reading by at most n frames, from one of what is left
reading_step : (stream : List ℕ) → ((rest : List ℕ) → length rest < length stream → (items : List Item) × (end : List ℕ) × Reads rest items end) → (r : Option (Item × List ℕ)) → first_frame stream ≡ r
    → (items : List Item) × (end : List ℕ) × Reads stream items end
reading_step stream go None is = ([], stream, done is)
reading_step stream go (Some (i, rest)) is =
    let later = go rest (frame_shorter stream i rest is) in
    (i ∷ later.0, later.1, more is later.2)

reading_within : (n : ℕ) (stream : List ℕ) → length stream < n → (items : List Item) × (end : List ℕ) × Reads stream items end
reading_within zero stream low = absurd (let no : ⊥ = omega arith in no)
reading_within (suc n) stream low = reading_step stream (λ rest less. reading_within n rest (omega arith)) (first_frame stream) refl

pub has_reading : (stream : List ℕ) → (items : List Item) × (end : List ℕ) × Reads stream items end
has_reading stream = reading_within (length stream + 1) stream (omega arith)

pub in_parts : (stream next rest end : List ℕ) (items others : List Item) → Reads stream items rest → Reads (rest ++ next) others end → Reads (stream ++ next) (items ++ others) end
in_parts stream next rest end items others (done none) later = later
in_parts stream next rest end items others (more {rest = r} {item = i} {items = is} first after) later =
    more (frame_again stream next i r first) (in_parts r next rest end is others after later)
