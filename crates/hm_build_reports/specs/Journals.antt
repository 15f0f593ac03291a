-- The text of a journal, and the journals that a run may write.
use Rattle.std.specs.Prelude.{◌≡◌, ◌+◌, ◌<◌, ℕ, false, cond, List, [], ◌∷◌, All, ◌++◌, codes}
use Rattle.std.specs.Fmt.{decimal}
use Rattle.hm_verdicts.specs.Sets.{ModuleSet, module_at}
use Rattle.hm_store.specs.Builds.{Build, IsAllSettled, IsLegal, set_of, state_of}
use Rattle.hm_store.specs.Objects.{is_publication}
use Rattle.hm_store.specs.declared.object.Entry.{Entry}
use Rattle.hm_store.specs.declared.object.Entry.TheVariants.{Claim, Publish, Fail, Stop}
use Rattle.hm_run_sources.specs.SourceModules.{AreModulesOf}

-- the text of a step on a module: a word, the worker's number, and the module's name
abbrev pub step_text : ModuleSet → List ℕ → ℕ → ℕ → List ℕ
step_text p word w m = word ++ (codes " " ++ (decimal w ++ (codes " " ++ (module_at p m).header.name.text)))

-- the line of an entry after n publications. The line of a publication has this number too
abbrev pub entry_line : ModuleSet → ℕ → Entry → List ℕ
entry_line p n (Claim w m) = step_text p (codes "claim") w m ++ codes "\n"
entry_line p n (Publish w m) = step_text p (codes "publish") w m ++ (codes " " ++ (decimal n ++ codes "\n"))
entry_line p n (Fail w m) = step_text p (codes "fail") w m ++ codes "\n"
entry_line p n (Stop w) = codes "stop " ++ (decimal w ++ codes "\n")

-- the lines of entries after n publications
abbrev pub entry_lines : ModuleSet → ℕ → List Entry → List ℕ
entry_lines p n [] = []
entry_lines p n (e ∷ es) = entry_line p n e ++ entry_lines p (n + cond (is_publication e) 1 0) es

-- a line for each entry, in order
abbrev pub journal_text : Build → List ℕ
journal_text b = entry_lines (set_of b) 0 b.journal

abbrev pub worker_of : Entry → ℕ
worker_of (Claim w m) = w
worker_of (Publish w m) = w
worker_of (Fail w m) = w
worker_of (Stop w) = w

-- a build with which a run by this many workers may end: legal, without a stop, with each module settled, and with numbers of workers below this one
pub record MayEnd (sources : List (List ℕ)) (workers : ℕ) (b : Build) : Type 0 where
  pub read : AreModulesOf sources b.modules
  pub legal : IsLegal b
  pub running : (state_of b).stopped ≡ false
  pub settled : IsAllSettled b
  pub numbers : All (λ e. worker_of e < workers) b.journal
