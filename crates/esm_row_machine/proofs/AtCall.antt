-- A call: the callee and its arguments stand on top.
use Rattle.std.proofs.Common.{◌≡◌, ℕ, suc, ◌+◌, Bool, List, [], ◌∷◌, ◌++◌, length, refl, ap, sym, subst, ◌∙◌}
use Rattle.std.proofs.lemmas.List.{append_assoc}
use Rattle.std.specs.Prelude.{reverse}
use Rattle.esm_tree.specs.Syntax.{none, Links, call as called_link, Item}
use Rattle.esm_env.specs.Modules.{Modules}
use Rattle.esm_values.specs.Code.{CodeValue}
use Rattle.esm_rewriting.specs.State.{State, Importing}
use Rattle.esm_rows.specs.declared.op.Op.{Op}
use Rattle.esm_rows.specs.declared.op.Op.TheVariants as op
use Rattle.esm_row_laws.specs.Spots.{Kont, Posts, Passes, rounds_of, Spot, Has, kont_row}
use Rattle.esm_row_laws.specs.Rooms.{HasRoom, OneMore}
use Rattle.esm_row_laws.specs.Callings.{above, Calling, without, with_last}
use Rattle.esm_row_laws.specs.Told.{Told, CallsAt, at_head, at_last}
use Rattle.esm_row_machine.specs.Functions.{Here, Waiter, rounds_at}
use Rattle.esm_row_machine.specs.Stacks.{HasNames, IsLeft, operands_under}
use Rattle.esm_row_machine.specs.Outside.{modules_in}
use Rattle.esm_row_machine.specs.Turns.{CallsHere}
use Rattle.esm_row_machine.specs.declared.machine.Frame.{Frame}
use Rattle.esm_row_machine.specs.declared.machine.Machine.{Machine}
use Rattle.esm_row_machine.proofs.Told.{longer}
use Rattle.esm_row_machine.proofs.Going.{IsLawful}
use Rattle.esm_row_machine.proofs.Coming as coming
use Rattle.esm_row_machine.proofs.Coming.{Comes, At, same_left, reverse_one, top_of}
use Rattle.esm_row_machine.proofs.Asked as asked
use Rattle.esm_row_machine.proofs.Tops.{Many, many_of, above_last, reverse_above}

-- the callee and its arguments, above the operands below
callee_above : (under : List CodeValue) (us : List CodeValue) (g : CodeValue) (vs : List CodeValue) → under ++ reverse (above us (g ∷ vs)) ≡ (under ++ reverse vs) ++ g ∷ us
callee_above under us g vs =
    ap (λ qs. under ++ qs) (reverse_above us (g ∷ vs) ∙ ap (λ qs. qs ++ us) (reverse_one g vs) ∙ append_assoc (reverse vs) (g ∷ []) us) ∙ sym (append_assoc under (reverse vs) (g ∷ us))

module _ {W S : Type 0} (state : W → State ℕ S) (modules : S → Modules ℕ) (linked : S → ℕ → Bool) (begins : Importing ℕ S)
    (Ready : W → Type 0) (Keeps : W → W → Type 0) (owns : S → ℕ → List (List ℕ)) (lawful : IsLawful state modules linked begins Ready Keeps owns)
    (w : W) (s : Machine) (f : Frame) (left : ℕ) (h : Here) (ws : List Waiter) (texts : List (List ℕ)) where
  abbrev Next : Op → Type 0
  Next q = Comes state modules linked begins Ready Keeps owns w s f left h ws texts q

  abbrev Tree : ℕ → List Item
  Tree = (modules_in state modules linked begins Ready Keeps w).tree

  abbrev Stands : Spot → List CodeValue → Type 0
  Stands t vs = At state modules linked begins Ready Keeps owns w s f (left + 1) h ws t vs

  -- the place is a call of this, with these arguments and these operands below
  pub record Called (ls : Links) (k : Kont) (n : ℕ) : Type 0 where
    pub place : Spot
    pub callee : CodeValue
    pub arguments : List CodeValue
    pub below : List CodeValue
    pub at : Stands place (above arguments (callee ∷ below))
    pub calling : Calling ls k callee below arguments place (above arguments (callee ∷ below))
    pub room : HasRoom k below
    pub long : length arguments ≡ n
    pub rounds : rounds_at place ≡ rounds_of k

  with_arguments : (ls : Links) (k : Kont) (n : ℕ) (v : CodeValue) (vs : List CodeValue) → Stands (Has (Passes n none ls k)) (v ∷ vs) → Many (OneMore (HasRoom k)) n vs → Called ls k (suc n)
  with_arguments ls k n v vs a m =
      let t = top_of {Room = HasRoom k} m.below m.room in
      let e : v ∷ vs ≡ v ∷ above m.tops (t.0 ∷ t.1) = ap (λ us. v ∷ us) (m.is ∙ ap (above m.tops) t.2) in
      let last : above (m.tops ++ v ∷ []) (t.0 ∷ t.1) ≡ v ∷ above m.tops (t.0 ∷ t.1) = above_last m.tops v (t.0 ∷ t.1) in
      record {
        place = Has (Passes (length m.tops) none ls k);
        callee = t.0;
        arguments = m.tops ++ v ∷ [];
        below = t.1;
        at = subst (λ (us : List CodeValue). Stands (Has (Passes (length m.tops) none ls k)) us) (e ∙ sym last) (subst (λ (j : ℕ). Stands (Has (Passes j none ls k)) (v ∷ vs)) (sym m.long) a);
        calling = subst (λ (us : List CodeValue). Calling ls k t.0 t.1 (m.tops ++ v ∷ []) (Has (Passes (length m.tops) none ls k)) us) (sym last) (with_last m.tops v);
        room = t.3;
        long = longer m.tops v ∙ ap suc m.long;
        rounds = refl;
      }

  called : (ls : Links) (k : Kont) (n : ℕ) (t : Spot) (vs : List CodeValue) → CallsAt ls k n t → Stands t vs → Called ls k n
  called ls k _ _ vs at_head a =
      let t = coming.top state modules linked begins Ready Keeps owns w s f (left + 1) h ws (Posts (called_link none ls) k) vs a in
      record {
        place = Has (Posts (called_link none ls) k);
        callee = t.value;
        arguments = [];
        below = t.below;
        at = t.at;
        calling = without;
        room = t.at.stand.stands.room;
        long = refl;
        rounds = refl;
      }
  called ls k _ _ vs (at_last n) a =
      let t = coming.top state modules linked begins Ready Keeps owns w s f (left + 1) h ws (Passes n none ls k) vs a in
      with_arguments ls k n t.value t.below t.at (many_of {Room = OneMore (HasRoom k)} n t.below t.at.stand.stands.room)

  pub call : (n : ℕ) (c : Next (op.Call n)) → CallsHere state modules linked begins Ready Keeps owns w f h ws n left w s
  call n c =
      let t = subst (λ q. Told q c.rest c.spot) c.told c.tells in
      by t.0 t.1 (called t.0 t.1 n c.spot c.operands t.2 c.at) (same_left c.rest (kont_row (Posts t.0 t.1)) (sym t.3) (asked.rest_left state modules linked begins Ready Keeps owns lawful w s f left h ws texts c))
    where
      by : (ls : Links) (k : Kont) → Called ls k n → IsLeft Tree h.at h.function (kont_row (Posts ls k)) left → CallsHere state modules linked begins Ready Keeps owns w f h ws n left w s
      by ls k g there = record {
        links = ls;
        kont = k;
        callee = g.callee;
        arguments = g.arguments;
        under = g.below;
        spot = g.place;
        values = above g.arguments (g.callee ∷ g.below);
        vss = h.names;
        leads = g.at.leads;
        calling = g.calling;
        room = g.room;
        many = g.long;
        below = subst (λ rs. HasNames Tree s f h.at h.function rs h.names ws) g.rounds g.at.stand.stands.below;
        stacked = g.at.stand.stands.operands ∙ callee_above (operands_under ws) g.arguments g.callee g.below;
        place = there;
        fits = g.at.stand.fits;
        keeps = lawful.itself w;
      }
