-- Why jobs come to an end: each takes a step, of which there are only so many, or leaves less by this measure. own
-- It counts the reactions that are still to run, and how much of each body remains at its await.
use Rattle.std.specs.Prelude.{◌≡◌, ℕ, suc, ◌+◌, ◌<◌, ◌≤◌, List, [], ◌∷◌, None}
use Rattle.esm_base.specs.declared.limits.TheConstants.{MAX_STEPS}
use Rattle.esm_base.specs.Urls.{Url}
use Rattle.esm_values.specs.Value.{Value}
use Rattle.esm_expr_eval.specs.Sizes.{size}
use Rattle.esm_promise.specs.Promises.{Promise, Pending, Done, Promises, Settled, Job}
use Rattle.esm_promise.specs.Reactions.{Reaction, Loaded, EntryLoaded}
use Rattle.esm_rewriting.specs.Rest.{Use, Part, Rest, stmt_count, end, more}
use Rattle.esm_rewriting.specs.Rest.{Part as part}
use Rattle.esm_rewriting.specs.Rest.{Use as use_of}
use Rattle.esm_rewriting.specs.State.{Standing}
use Rattle.esm_world.specs.World.{World, stopped}
use Rattle.esm_world.specs.Jobs.{FirstReacts}

-- ---- how much of a body remains

abbrev pub weight_use : Use → ℕ
weight_use (use_of.Chooses ss others) = suc (stmt_count ss + stmt_count others)
weight_use (use_of.Awaits purpose) = suc (weight_use purpose)
weight_use _ = 0

abbrev mutual
  pub weight_part : {V : Type 0} → Part V → ℕ
  weight_part (part.Whole s) = 1
  weight_part (part.Does u e) = weight_use u + size e
  weight_part (part.Stands u) = weight_use u + 1
  weight_part (part.In scope rest) = suc (weight_rest rest)
  weight_part (part.Tries rest x handler) = suc (suc (weight_rest rest + stmt_count handler))

  pub weight_rest : {V : Type 0} → Rest V → ℕ
  weight_rest end = 0
  weight_rest (more p rest) = weight_part p + weight_rest rest

abbrev pub standing_weight : List (Standing Url) → ℕ
standing_weight [] = 0
standing_weight (s ∷ ss) = weight_rest s.rest + standing_weight ss

-- ---- how many reactions are still to run: those of the jobs, and those of pending promises

-- what follows a load has two reactions
abbrev pub weight_of : Reaction Url → ℕ
weight_of (Loaded s) = 2
weight_of EntryLoaded = 2
weight_of _ = 1

abbrev pub reactions : List (Reaction Url) → ℕ
reactions [] = 0
reactions (r ∷ rs) = weight_of r + reactions rs

abbrev pub of_promise : Promise (Reaction Url) (Value Url) → ℕ
of_promise (Pending rs) = reactions rs
of_promise (Done how) = 0

abbrev pub of_all : List (Promise (Reaction Url) (Value Url)) → ℕ
of_all [] = 0
of_all (p ∷ ps) = of_promise p + of_all ps

abbrev pub of_jobs : List (Job (Reaction Url)) → ℕ
of_jobs [] = 0
of_jobs (j ∷ js) = weight_of j.reaction + of_jobs js

abbrev pub Queue : Type 0
Queue = Promises (Reaction Url) (Value Url)

abbrev pub queue : Queue → ℕ
queue ps = of_jobs ps.jobs + of_all ps.all

-- ---- what is left

abbrev pub left : World → ℕ
left w = queue w.promises + standing_weight w.engine.standing

-- a job that no limit stops takes back no step, and takes no more than there may be; where it takes none, less is left,
-- whatever result its reaction is given
pub record JobsLower : Type 0 where
  pub steps : (w after : World) (how : Settled (Value Url)) → FirstReacts w how after → stopped after ≡ None
      → w.engine.steps ≤ after.engine.steps
  pub within : (w after : World) (how : Settled (Value Url)) → FirstReacts w how after → stopped after ≡ None
      → w.engine.steps ≤ MAX_STEPS → after.engine.steps ≤ MAX_STEPS
  pub less : (w after : World) (how : Settled (Value Url)) → FirstReacts w how after → stopped after ≡ None
      → after.engine.steps ≡ w.engine.steps → left after < left w
