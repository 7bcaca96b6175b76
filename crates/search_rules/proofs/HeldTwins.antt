-- R2 as the search holds it: two threads have one class and equal words exactly when they are of one `02` line and have equal words, and
-- where a prefix is reached, exactly when they are twins.
use Prim.Native.Nat.{ℕ, ◌<◌, ◌≤◌}
use mathlib.Core.Path.{◌≡◌, refl, sym, ap, ◌∙◌}
use mathlib.Core.Bool.{Bool, true, false, ◌&&◌, true≢false}
use mathlib.Core.List.{List}
use native.Mathlib.Omega.{arith}
use lib.Dec.{eqb}
use lib.ListN.{get_or}
use Rattle.spec_file.specs.Program.{Program}
use Rattle.spec_schedules.specs.Lists.{range, any}
use Rattle.spec_schedules.specs.Order.{Schedule}
use Rattle.spec_schedules.proofs.Lists.{in_range_lem, of_range, any_yes, any_of}
use Rattle.spec_sc.specs.Graph.{end_of}
use Rattle.spec_model.specs.Exchange.{together}
use Rattle.theory_sc.specs.Rules.{twin}
use Rattle.theory_sc.specs.ThreadWords.{twin_by_word}
use Rattle.theory_sc.proofs.TwinWords.{twins_by_word}
use Rattle.search_place.specs.ClassGroups.{Lined}
use Rattle.search_place.specs.Reached.{Reached}
use Rattle.search_place.specs.declared.place.Place.{Place}
use Rattle.search_place.proofs.ClassGroups.{together_known, alone_known}

-- none of those below n passes
pub none_below : (f : ℕ → Bool) (n : ℕ) → ((u : ℕ) → u < n → f u ≡ false) → any f (range 0 n) ≡ false
none_below f n none = go (any f (range 0 n)) refl
  where
    go : (b : Bool) → any f (range 0 n) ≡ b → any f (range 0 n) ≡ false
    go true e = let r = any_yes f (range 0 n) e in let i = (of_range 0 n r.0 r.1).1 in absurd (true≢false (sym r.2 ∙ none r.0 (omega arith)))
    go false e = e

module _ (class words : List ℕ) (groups : ℕ) (p : Program) (lines : Lined class groups p) (t : ℕ) (h : t < 6) (end : ℕ) (le : end ≤ t) where
  -- a thread without a class is in no line
  pub alone_held : get_or class t 0 ≡ 0 → any (twin_by_word p words t) (range 0 end) ≡ false
  alone_held e = none_below (twin_by_word p words t) end (λ u i. let q = ap (λ (g : List (List ℕ)). together g u t) lines.same ∙ alone_known class groups u t e in rw q)

  -- what the code finds among those below `last`, t's number being own
  module _ (own last : ℕ) (e : own ≡ t) (el : last ≡ end) (some : get_or class own 0 ≡ 0 → ⊥) where
    abbrev test : ℕ → ℕ → Bool
    test o u = eqb (get_or class u 0) (get_or class o 0) && eqb (get_or words u 0) (get_or words o 0)

    tested : (u : ℕ) → u < last → test own u ≡ twin_by_word p words t u
    tested u i =
        ap (λ (o : ℕ). test o u) e
        ∙ ap (λ (a : Bool). a && eqb (get_or words u 0) (get_or words t 0))
        (together_known class groups u t lines.known (omega arith) h (λ q. some (ap (λ (o : ℕ). get_or class o 0) e ∙ q)) ∙ ap (λ (g : List (List ℕ)). together g u t) (sym lines.same))

    pub words_none : ((u : ℕ) → u < last → test own u ≡ false) → false ≡ any (twin_by_word p words t) (range 0 end)
    words_none none = sym (none_below (twin_by_word p words t) end (λ u i. let j : u < last = omega arith in sym (tested u j) ∙ none u j))

    pub words_some : (u : ℕ) → u < last → test own u ≡ true → true ≡ any (twin_by_word p words t) (range 0 end)
    words_some u i q = sym (any_of (twin_by_word p words t) (range 0 end) u (in_range_lem 0 end u (omega arith) (omega arith)) (sym (tested u i) ∙ q))

-- R2, AS THE CODE TESTS IT: where a prefix is reached, these are the twins
pub twins_held : (code lengths class : List ℕ) (threads groups : ℕ) (x : Place) (p : Program) (v : Schedule) → Reached code lengths class threads groups x p v → (t : ℕ) → t < 6 →
    any (twin_by_word p x.words t) (range 0 t) ≡ any (twin p (end_of p v) t) (range 0 t)
twins_held code lengths class threads groups x p v r t h = ap (λ (ws : List ℕ). any (twin_by_word p ws t) (range 0 t)) r.words ∙ twins_by_word p r.loaded.well_formed v r.allowed t h
