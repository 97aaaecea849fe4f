use Rattle.std.proofs.Common.{◌≡◌, ℕ, List, [], ◌∷◌, ◌++◌, length, refl, ap, sym, ◌∙◌, arith}
use Rattle.std.proofs.lemmas.Result.{IfOk-weaker}
use Rattle.std.specs.Prelude.{Option, None}
use Rattle.esm_rows.specs.Locals.{declared, names_of, place_told}
use Rattle.esm_rows.specs.Rows.{found_among, found_here, many_names}
use Rattle.esm_rows.specs.declared.names.Local.{Local}
use Rattle.esm_rows.specs.declared.names.Place.{Place}
use Rattle.esm_rows.proofs.Entered.{names_push}
use Rattle.esm_rows.proofs.Found.{here_more}
use Rattle.esm_rows.proofs.names.find_here.Goals as goal

nowhere : (blocks : List (List Local)) (name : List ℕ) → length blocks ≡ 0 → None ≡ found_here (names_of blocks) name
nowhere [] name none = refl
nowhere (b ∷ bs) name none = absurd (omega (arith, none))

innermost : (blocks outer : List (List Local)) (inner : List Local) (name : List ℕ) (many : ℕ) → blocks ≡ outer ++ inner ∷ [] → many ≡ many_names (names_of outer) → (here : Option Place) → place_told here ≡ found_among many (declared inner) name → place_told here ≡ found_here (names_of blocks) name
innermost blocks outer inner name many last counts here h =
    here_more name inner (names_of outer) here many counts h ∙ ap (λ ns. found_here ns name) (sym (ap names_of last ∙ names_push outer inner []))

pub returns-in_ok-before-in-Some : goal.returns-in_ok-before-in-Some
returns-in_ok-before-in-Some c =
    let inner = c.in-Some.inner.now in
    let before = c.in_ok-before-in-Some.before in
    let name = c.args.name.now in
    IfOk-weaker c.place_among.result (λ place. place_told place ≡ found_among before (declared inner) name) (λ place. place_told place ≡ found_here (names_of c.args.blocks.now) name)
    (innermost c.args.blocks.now c.in-Some.outer.now inner name before c.in-Some.ensures.cases.0 c.in_ok-before-in-Some.ensures) c.place_among.ensures

pub returns-in-None : goal.returns-in-None
returns-in-None c = nowhere c.args.blocks.now c.args.name.now c.in-None.ensures.cases
