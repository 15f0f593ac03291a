-- Frames that are taken one after another, and turns.
use Rattle.std.proofs.Common.{◌≡◌, ◌∙◌, ◌+◌, ◌<◌, ◌≤◌, ◌++◌, ◌∷◌, [], ℕ, List, Option, None, Some, ap, append_assoc, arith, drop, get_or, length, map, refl, subst, sym, take}
use Rattle.std.proofs.KnownBytes.{Appends-nil, Appends-trans, Consumes-trans}
use Rattle.std.proofs.lemmas.List.{append-nil, drop-map, drop_all, drop_more, length-append, length-take, map-append, take-append-drop, take_more}
use Rattle.std.specs.Io.KnownBytes.{Consumes}
use Rattle.serde_json.specs.Data.{Data}
use Rattle.hm_lsp_frames.specs.Frames.{Reads}
use Rattle.hm_lsp_frames.specs.Pending.{IsHeldBy, IsPending, TakesAll, item_of}
use Rattle.hm_lsp_frames.specs.declared.frames.Frame.{Frame}
use Rattle.hm_lsp_frames.specs.declared.frames.Frames.{Frames}
use Rattle.hm_lsp_output.specs.Frames.{AreFramesOf}
use Rattle.hm_lsp_server.specs.Published.{IsPublished}
use Rattle.hm_lsp_server.specs.Servers.{held_of, session_of, sources_of}
use Rattle.hm_lsp_server.specs.declared.server.Server.{Server}
use Rattle.hm_lsp_serving.specs.Steps.{IsPublishedNow}
use Rattle.hm_lsp_serving.specs.Taking.{AreCancels, AreNoted, IsFrameDone, IsItemNoted, more as more_noted, none as none_noted}
use Rattle.hm_lsp_serving.specs.Turns.{AreTaken, AreWritten, IsEndedIn, IsLastTurn, IsToldAfter, IsTurn, more as more_taken}

-- what was written

pub written_none : (a : Option (List ℕ)) → AreWritten a a []
written_none a = ([], (refl, Appends-nil a))

frames_joined : (ms ns : List Data) (x y : List ℕ) → AreFramesOf ms x → AreFramesOf ns y → AreFramesOf (ms ++ ns) (x ++ y)
frames_joined [] ns x y none are = subst (λ b. AreFramesOf ns (b ++ y)) (sym none) are
frames_joined (m ∷ ms) ns x y (first, (later, (whole, (own, rest)))) are = (first, (later ++ y, (ap (λ (b : List ℕ). b ++ y) whole ∙ append_assoc first later y, (own, frames_joined ms ns later y rest are))))

pub written_joined : (a b c : Option (List ℕ)) (ms ns : List Data) → AreWritten a b ms → AreWritten b c ns → AreWritten a c (ms ++ ns)
written_joined a b c ms ns (x, (are, first)) (y, (more, later)) = (x ++ y, (frames_joined ms ns x y are more, Appends-trans a b c x y first later))

pub written_later : (a b c : Option (List ℕ)) (ms : List Data) → AreWritten a b ms → AreWritten b c [] → AreWritten a c ms
written_later a b c ms one two = subst (AreWritten a c) (append-nil ms) (written_joined a b c ms [] one two)

-- the elements of a loop

pub one_more : {A B : Type 0} (g : A → B) (xs : List A) (i : ℕ) (x : A) → i < length xs → x ≡ get_or xs i x → map g (take (i + 1) xs) ≡ map g (take i xs) ++ g x ∷ []
one_more g xs i x low at = ap (map g) (take_more xs i x low ∙ ap (λ y. take i xs ++ y ∷ []) (sym at)) ∙ map-append g (take i xs) (x ∷ [])

pub and_later : {A B : Type 0} (g : A → B) (xs : List A) (i : ℕ) (x : A) → i < length xs → x ≡ get_or xs i x → map g xs ≡ map g (take i xs) ++ g x ∷ map g (drop (i + 1) xs)
and_later g xs i x low at =
    let rest : drop i xs ≡ x ∷ drop (i + 1) xs = drop_more xs i x low ∙ ap (λ y. y ∷ drop (i + 1) xs) (sym at) in
    ap (map g) (sym (take-append-drop i xs) ∙ ap (λ l. take i xs ++ l) rest) ∙ map-append g (take i xs) (x ∷ drop (i + 1) xs)

pub noted_more : (frames : List Frame) (i : ℕ) (f : Frame) (before after : List Data) → i < length frames → f ≡ get_or frames i f → AreNoted (map item_of (take i frames)) before → IsItemNoted (item_of f) before after
    → AreNoted (map item_of (take (i + 1) frames)) after
noted_more frames i f before after low at so_far is = more_noted (item_of f) so_far is (one_more item_of frames i f low at)

pub cancels_of_none : (frames : List Frame) (cancels : List Data) → length frames ≡ 0 → cancels ≡ [] → AreCancels (map item_of frames) cancels
cancels_of_none frames cancels none is = none_noted (drop-map item_of 1 frames ∙ ap (map item_of) (drop_all 1 frames (omega (arith, none)))) is

pub taken_more : (cancels : List Data) (frames : List Frame) (i : ℕ) (f : Frame) (before middle after : Server) (earlier later : List Data) → i < length frames → f ≡ get_or frames i f
    → AreTaken cancels (map item_of (take i frames)) before middle earlier → IsFrameDone cancels (item_of f) middle after later None → AreTaken cancels (map item_of (take (i + 1) frames)) before after (earlier ++ later)
taken_more cancels frames i f before middle after earlier later low at so_far is = more_taken so_far is (one_more item_of frames i f low at) refl

pub ended_at : (cancels : List Data) (frames : List Frame) (i : ℕ) (f : Frame) (before middle after : Server) (earlier later : List Data) (status : ℕ) → i < length frames → f ≡ get_or frames i f
    → AreTaken cancels (map item_of (take i frames)) before middle earlier → IsFrameDone cancels (item_of f) middle after later (Some status) → IsEndedIn cancels (map item_of frames) before (earlier ++ later) status
ended_at cancels frames i f before middle after earlier later status low at so_far is = record {
  first = map item_of (take i frames);
  last = item_of f;
  rest = map item_of (drop (i + 1) frames);
  middle = middle;
  after = after;
  earlier = earlier;
  later = later;
  items_are = and_later item_of frames i f low at;
  taken = so_far;
  ends = is;
  whole = refl;
}

-- the bytes that wait

one_held : (p : Option ℕ) (held rest : List ℕ) → IsHeldBy p held [] → IsHeldBy p held rest → rest ≡ []
one_held None held rest none is = is ∙ sym none
one_held (Some left) held rest none is =
    let long : length none.passed + length held ≡ 0 = sym (length-append none.passed held) ∙ ap length (sym none.whole) in
    let never : ⊥ = omega (arith, none.begun, long) in
    absurd never

-- if no byte waits, none does in another way
pub no_rest : (frames : Frames) (rest : List ℕ) → IsPending frames [] → IsPending frames rest → rest ≡ []
no_rest frames rest none is = one_held frames.passing (drop frames.start frames.bytes.items) rest none is

-- a turn that doesn't end the server
pub turn_of : (stream : List ℕ) (frames : Frames) (whole : List Frame) (cancels : List Data) (before middle after : Server) (replies later : List Data) → TakesAll frames stream [] whole → AreCancels (map item_of whole) cancels
    → AreTaken cancels (map item_of whole) before middle replies → ((rest : List ℕ) → IsPending frames rest → IsToldAfter rest middle after later)
    → (rest : List ℕ) × (IsPending frames rest × IsTurn stream before after rest (replies ++ later))
turn_of stream frames whole cancels before middle after replies later (new, rest, all_are, reads, pending) cancel taken told = (
  rest,
  (
    pending,
    record {
      items = map item_of whole;
      cancels = cancels;
      middle = middle;
      replies = replies;
      later = later;
      reads = subst (λ l. Reads stream (map item_of l) rest) (sym all_are) reads;
      cancel = cancel;
      taken = taken;
      told = told rest pending;
      whole = refl;
    },
  ),
)

-- the last turn
pub last_turn_of : (stream : List ℕ) (frames : Frames) (whole : List Frame) (cancels : List Data) (before : Server) (sent : List Data) (status : ℕ) → TakesAll frames stream [] whole → AreCancels (map item_of whole) cancels
    → IsEndedIn cancels (map item_of whole) before sent status → (rest : List ℕ) × (IsPending frames rest × IsLastTurn stream before sent status)
last_turn_of stream frames whole cancels before sent status (new, rest, all_are, reads, pending) cancel ends = (
  rest,
  (pending, record { items = map item_of whole; cancels = cancels; rest = rest; reads = subst (λ l. Reads stream (map item_of l) rest) (sym all_are) reads; cancel = cancel; ends = ends }),
)

-- the diagnostics are sent
pub published_of : (before after : Server) (a b : Option (List ℕ)) (first all : List Data) → first ≡ [] → (new : List Data) × (all ≡ first ++ new) × IsPublished before after new → session_of after ≡ session_of before
    → sources_of after ≡ sources_of before → held_of after ≡ held_of before → AreWritten a b all → (sent : List Data) × (IsPublishedNow before after sent × AreWritten a b sent)
published_of before after a b first all none (new, is, published) session sources held written =
    let same : all ≡ new = is ∙ ap (λ l. l ++ new) none in
    (new, (record { published = published; session = session; sources = sources; held = held }, subst (AreWritten a b) same written))

-- what was read

pub consumed_none : (a b c : Option (List ℕ)) (read buf : List ℕ) (count : ℕ) → count ≡ 0 → Consumes a b read → Consumes b c (take count buf) → Consumes a c read
consumed_none a b c read buf count zero one two = subst (Consumes a c) (ap (λ k. read ++ take k buf) zero ∙ append-nil read) (Consumes-trans a b c read (take count buf) one two)

pub some_taken : (count : ℕ) (buf : List ℕ) → (count ≡ 0 → ⊥) → count ≤ length buf → 0 < length (take count buf)
some_taken count buf some low = let is = length-take count buf in omega (arith, some, low, is)
