-- How many subjects reactions of a kind have: module ids have 32 bits.
use Rattle.std.specs.Prelude.{ℕ, ◌^◌}
use Rattle.esm_promise.specs.declared.reaction.ReactionKind.{ReactionKind}
use Rattle.esm_promise.specs.declared.reaction.ReactionKind.TheVariants as kinds

abbrev pub subjects : ReactionKind → ℕ
subjects kinds.Await = 2 ^ 32
subjects kinds.BodyEnd = 2 ^ 32
subjects kinds.Loaded = 2 ^ 64
subjects kinds.Evaluated = 2 ^ 64
subjects kinds.EntryLoaded = 2 ^ 64
subjects kinds.EntryDone = 2 ^ 64
