-- The characters of a text have tokens, up to the end or a place where none can be read.
use Rattle.std.proofs.Common.{◌≡◌, ℕ, zero, suc, ◌-◌, ◌<◌, ◌≤◌, ◌⊎◌, inl, inr, Bool, true, false, ◌||◌, List, [], ◌∷◌, length, drop, Some, None, refl, arith, length-drop}
use Rattle.esm_tree.specs.Lexeme.{Lexeme, lexeme}
use Rattle.esm_grammar.specs.Lexes.{Gap, comment, gap, widths, Lexes, all_read, stuck, blank, token, NoToken}
use Rattle.esm_grammar.proofs.Basics.{bind_ok, chosen, guard_ok, from_some}
use Rattle.esm_script.proofs.Fronts.{HasToken, token_or_none}

abbrev IsSome : ℕ × Bool → Type 0
IsSome g = 0 < g.0

never : {A : Type 0} {y : A} → None ≡ Some y → ⊥
never e = cc

comment_some : (cs : List ℕ) (g : ℕ × Bool) → comment cs ≡ Some g → IsSome g
unfolding comment
comment_some [] g e = absurd (never e)
comment_some (c ∷ cs) g e = elim (chosen _ _ _ _ e) [
  | inl p ↦ from_some IsSome p.1 (omega arith)
  | inr p ↦
      let h = guard_ok _ _ _ p.1 in
      let r = bind_ok _ _ _ h.1 in
      from_some IsSome r.2 (omega arith)
]

gap_some : (c : ℕ) (cs : List ℕ) (g : ℕ × Bool) → gap (c ∷ cs) ≡ Some g → IsSome g
unfolding gap
gap_some c cs g e = elim (chosen _ _ _ _ e) [
  | inl p ↦ from_some IsSome p.1 (omega arith)
  | inr p ↦ elim (chosen _ _ _ _ p.1) [
    | inl q ↦ from_some IsSome q.1 (omega arith)
    | inr q ↦ let h = guard_ok _ _ _ q.1 in comment_some cs g h.1
  ]
]

pub record HasLexemes (total : ℕ) (line : Bool) (cs : List ℕ) : Type 0 where
  pub ts : List Lexeme
  pub whole : Bool
  pub lexes : Lexes total line cs ts whole

module _ (total : ℕ) where
  -- of fewer characters they are known
  abbrev Known : ℕ → Type 0
  Known n = (line : Bool) (cs : List ℕ) → length cs ≤ n → HasLexemes total line cs

  behind_gap : (line : Bool) (cs : List ℕ) (g : ℕ × Bool) → gap cs ≡ Some g → HasLexemes total (line || g.1) (drop g.0 cs) → HasLexemes total line cs
  behind_gap line cs g e h = record { ts = h.ts; whole = h.whole; lexes = blank e h.lexes }

  behind_token : (line : Bool) (cs : List ℕ) (k : HasToken cs) → gap cs ≡ None → HasLexemes total false k.after → HasLexemes total line cs
  behind_token line cs k e h = record {
    ts = lexeme k.kind (total - widths cs) (total - widths k.after) line k.terminal k.spelled ∷ h.ts;
    whole = h.whole;
    lexes = token e k.longest h.lexes;
  }

  one_more : (n c : ℕ) (cs : List ℕ) (line : Bool) → length (c ∷ cs) ≤ suc n → Known n → HasLexemes total line (c ∷ cs)
  one_more n c cs line le known = by (gap (c ∷ cs)) refl
    where
      by_token : HasToken (c ∷ cs) ⊎ NoToken (c ∷ cs) → gap (c ∷ cs) ≡ None → HasLexemes total line (c ∷ cs)
      by_token (inl k) e = behind_token line (c ∷ cs) k e (known false k.after (let l = k.less in omega (arith, l, le)))
      by_token (inr none) e = record { ts = []; whole = false; lexes = stuck e none }

      by : (g : Gap) → gap (c ∷ cs) ≡ g → HasLexemes total line (c ∷ cs)
      by None e = by_token (token_or_none c cs) e
      by (Some g) e =
          let s = gap_some c cs g e in
          behind_gap line (c ∷ cs) g e (known (line || g.1) (drop g.0 (c ∷ cs)) (omega (arith, s, le, length-drop g.0 (c ∷ cs))))

  -- the number bounds the characters
  pub has_lexemes : (n : ℕ) → Known n
  has_lexemes n line [] le = record { ts = []; whole = true; lexes = all_read }
  has_lexemes zero line (c ∷ cs) le = absurd (omega arith)
  has_lexemes (suc n) line (c ∷ cs) le = one_more n c cs line le (has_lexemes n)
