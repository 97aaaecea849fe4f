-- A function goes on, or throws, in another world, where of the stacks only operands have changed.
use Rattle.std.proofs.Common.{◌≡◌, ℕ, nat_eq, Bool, List, ◌++◌, length, Option, refl, ap, sym, subst, ◌∙◌}
use Rattle.std.specs.Prelude.{reverse}
use Rattle.esm_tree.specs.Syntax.{Item}
use Rattle.esm_env.specs.Modules.{Modules}
use Rattle.esm_values.specs.Code.{CodeValue, values_of, numbered}
use Rattle.esm_values.specs.declared.value.Value.{Value}
use Rattle.esm_rewriting.specs.Rest.{Rest}
use Rattle.esm_rewriting.specs.State.{State, Importing}
use Rattle.esm_rewriting.specs.Segment.{Segment}
use Rattle.esm_row_laws.specs.Spots.{Round, Spot, rounds_row, spot_row}
use Rattle.esm_row_laws.specs.Rooms.{SpotHasRoom}
use Rattle.esm_row_laws.specs.Remaining.{rest_at}
use Rattle.esm_row_laws.specs.Leading.{Leads}
use Rattle.esm_row_laws.specs.Landings.{ThrowsIn, remains}
use Rattle.esm_row_machine.specs.Functions.{Here, Waiter, rounds_at}
use Rattle.esm_row_machine.specs.Stacks.{HasNames, IsLeft, operands_under}
use Rattle.esm_row_machine.specs.Outside.{AllKnown, Stays, modules_in}
use Rattle.esm_row_machine.specs.Turns.{AreNamesKnown, Fits, GoesOn, ThrowsHere}
use Rattle.esm_row_machine.specs.declared.machine.Frame.{Frame}
use Rattle.esm_row_machine.specs.declared.machine.Machine.{Machine}
use Rattle.esm_row_machine.proofs.Going as going
use Rattle.esm_row_machine.proofs.Going.{IsLawful}
use Rattle.esm_row_machine.proofs.Coming.{At}
use Rattle.esm_row_machine.proofs.Staying as staying
use Rattle.esm_row_machine.proofs.Literals.{with_operands}

module _ {W S : Type 0} (state : W → State ℕ S) (modules : S → Modules ℕ) (linked : S → ℕ → Bool) (begins : Importing ℕ S)
    (Ready : W → Type 0) (Keeps : W → W → Type 0) (owns : S → ℕ → List (List ℕ)) (lawful : IsLawful state modules linked begins Ready Keeps owns)
    (w : W) (s : Machine) (f : Frame) (n : ℕ) (h : Here) (ws : List Waiter) (t0 : Spot) (vs0 : List CodeValue) (at : At state modules linked begins Ready Keeps owns w s f n h ws t0 vs0)
    (after : W) (keeps : Keeps w after) (late : Machine) (same : with_operands s late) where
  abbrev Tree : W → ℕ → List Item
  Tree v = (modules_in state modules linked begins Ready Keeps v).tree

  abbrev Known : W → CodeValue → Type 0
  Known v u = going.Known state modules linked begins Ready Keeps owns v u

  abbrev st : Stays state modules linked begins Ready Keeps owns w after
  st = lawful.stays w after keeps

  below_after : HasNames (Tree after) late f h.at h.function (rounds_at t0) h.names ws
  below_after = staying.names_stay state modules linked begins Ready Keeps owns w after st late f h.at h.function (rounds_at t0) h.names ws at.stand.fits.homes
      (going.same_names state modules linked begins Ready Keeps owns w s f h ws late late.operands.items (record { operands = refl; names = same.0; handlers = same.1; frames = same.2 })
      h.at h.function (rounds_at t0) h.names at.stand.stands.below)

  fits_after : (items : List Value) → late.operands.items ≡ items → Ready after → AllKnown (Known after) (values_of items) → Fits state modules linked begins Ready Keeps owns after late h.at ws
  fits_after items e ready known = record {
    is_ready = ready;
    home = st.links h.at at.stand.fits.home;
    homes = staying.homes_stay state modules linked begins Ready Keeps owns w after st ws at.stand.fits.homes;
    operands = subst (λ (us : List Value). AllKnown (Known after) (values_of us)) (sym e) known;
    names = subst (λ (ns : List (Option Value)). AreNamesKnown (Known after) ns) (sym same.0) (staying.names_known state modules linked begins Ready Keeps owns w after st s.names.items at.stand.fits.names);
  }

  -- known values stay known
  pub known_after : (vs : List CodeValue) → AllKnown (Known w) vs → AllKnown (Known after) vs
  known_after vs known = going.all_stay state modules linked begins Ready Keeps owns w after st vs known

  -- the function goes on at this place, with these operands
  pub goes_on : (left : ℕ) (t : Spot) (vs : List CodeValue) (items : List Value) → late.operands.items ≡ items → rounds_at t ≡ rounds_at t0 → values_of items ≡ operands_under ws ++ reverse vs → SpotHasRoom t vs
      → IsLeft (Tree w) h.at h.function (spot_row t) left → Ready after → AllKnown (Known after) (values_of items)
      → Leads nat_eq modules begins h.at (state w) (rest_at numbered t0 h.names vs0) (state after) (rest_at numbered t h.names vs) → GoesOn state modules linked begins Ready Keeps owns w f h ws left after late
  goes_on left t vs items e rounds stacked room place ready known leads = record {
    spot = t;
    vss = h.names;
    values = vs;
    stands = record {
      stands = record {
        below = subst (λ (rs : List Round). HasNames (Tree after) late f h.at h.function rs h.names ws) (sym rounds) below_after;
        operands = ap values_of e ∙ stacked;
        room = room;
        place = staying.left_stays state modules linked begins Ready Keeps owns w after st h.at h.function (spot_row t) left at.stand.fits.home place;
      };
      fits = fits_after items e ready known;
    };
    leads = λ cs how end seg. at.leads cs how end (leads cs how end seg);
    keeps = keeps;
  }

  -- what remains of its innermost block throws
  pub throws : (rs : List Round) (rest : Rest CodeValue) (v : CodeValue) (above : List CodeValue) (items : List Value) → late.operands.items ≡ items → rs ≡ rounds_at t0 → values_of items ≡ operands_under ws ++ above
      → IsLeft (Tree w) h.at h.function (rounds_row rs) (length (rounds_row rs)) → Ready after → AllKnown (Known after) (values_of items) → Known after v
      → rest_at numbered t0 h.names vs0 ≡ remains modules begins rs h.names rest → ThrowsIn modules begins h.at rs h.names (state w) rest v (state after)
      → ThrowsHere state modules linked begins Ready Keeps owns w f h ws v after late
  throws rs rest v above items e rounds stacked row ready known knows is thrown = record {
    rounds = rs;
    vss = h.names;
    rest = rest;
    mid = state w;
    leads = λ cs how end seg. at.leads cs how end (subst (λ r. Segment nat_eq modules begins (state w) h.at r cs how end) (sym is) seg);
    throws = thrown;
    row = staying.left_stays state modules linked begins Ready Keeps owns w after st h.at h.function (rounds_row rs) (length (rounds_row rs)) at.stand.fits.home row;
    below = subst (λ (qs : List Round). HasNames (Tree after) late f h.at h.function qs h.names ws) (sym rounds) below_after;
    above = above;
    stacked = ap values_of e ∙ stacked;
    known = knows;
    fits = fits_after items e ready known;
    keeps = keeps;
  }
