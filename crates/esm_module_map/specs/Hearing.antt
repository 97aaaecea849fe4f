-- Which posts a call hears.
use Rattle.std.specs.Prelude.{◌≡◌, ℕ, ◌+◌, List, ◌++◌, length, slice_get, Some}
use Rattle.std.specs.Arc.{arc_value}
use Rattle.esm_module_map.specs.declared.event.MapEvent.{MapEvent}
use Rattle.esm_module_map.specs.declared.reply.Heard.{Heard}
use Rattle.esm_module_map.specs.Replay.{replay}
use Rattle.esm_module_map.specs.Histories.{IsPostIn}

abbrev pub number_heard : {P : Type 0} → Heard P → ℕ
number_heard x = x.number

module _ {P G : Type 0} (weight : P → ℕ) where
  -- the post at this place of the posts, with what was posted
  abbrev pub IsPostAt : List (MapEvent P G) → ℕ → Heard P → Type 0
  IsPostAt h k x = (slice_get (replay weight h).posts k ≡ Some x.number) × IsPostIn h x.number (arc_value x.payload)

  -- own: further posts stand behind those that were there, those of the history from `start` on, in their order, and so many
  -- posts are known then
  pub record HearsPosts (h : List (MapEvent P G)) (start : ℕ) (before : List (Heard P)) (known : ℕ) (now : List (Heard P)) : Type 0 where
    pub more : List (Heard P)
    pub behind : now ≡ before ++ more
    pub counted : known ≡ start + length more
    pub in_order : (i : ℕ) (x : Heard P) → slice_get more i ≡ Some x → IsPostAt h (start + i) x
