-- Exchanging the threads of graphs: exchanging none, exchanging back, and one exchange after another; and what an exchange makes of a graph is
-- one graph.
use Prim.Native.Nat.{ℕ, ◌<◌}
use mathlib.Core.Path.{◌≡◌, refl, sym, ap, ap₂, ◌∙◌}
use mathlib.Core.List.{List, [], ◌∷◌, map, map-map}
use lib.ListN.{length, get_or}
use lib.Seq.{ext_get_or}
use Rattle.spec_sc.specs.State.{Event}
use Rattle.spec_sc.specs.Graph.{Graph}
use Rattle.spec_sc.proofs.GraphTerms.{graph_with}
use Rattle.spec_model.specs.Exchange.{Permutation}
use Rattle.spec_sc.specs.Exchange.{moved_event, moved_read, moved_reads, moved_writes, Renames}

-- moving twice
reads_twice : (ρ π : ℕ → ℕ) (rs : List (ℕ × Event)) → moved_reads ρ (moved_reads π rs) ≡ moved_reads (λ t. ρ (π t)) rs
unfolding moved_reads moved_read moved_event
reads_twice ρ π rs = map-map (moved_read ρ) (moved_read π) rs

writes_twice : (ρ π : ℕ → ℕ) (ws : List (List Event)) → map (moved_writes ρ) (map (moved_writes π) ws) ≡ map (moved_writes (λ t. ρ (π t))) ws
unfolding moved_writes moved_event
writes_twice ρ π [] = refl
writes_twice ρ π (w ∷ ws) = ap₂ (λ (a : List Event) (b : List (List Event)). a ∷ b) (map-map (moved_event ρ) (moved_event π) w) (writes_twice ρ π ws)

-- moving nothing
module _ (f : ℕ → ℕ) (h : (t : ℕ) → f t ≡ t) where
  event_same : (e : Event) → moved_event f e ≡ e
  unfolding moved_event
  event_same e = ap (λ (x : ℕ). let z : Event = (x, e.1) in z) (h e.0)

  reads_same : (rs : List (ℕ × Event)) → moved_reads f rs ≡ rs
  unfolding moved_reads moved_read
  reads_same [] = refl
  reads_same (r ∷ rs) = ap₂ (λ (a : ℕ × Event) (b : List (ℕ × Event)). a ∷ b) (ap (λ (e : Event). let z : ℕ × Event = (r.0, e) in z) (event_same r.1)) (reads_same rs)

  row_same : (es : List Event) → moved_writes f es ≡ es
  unfolding moved_writes
  row_same [] = refl
  row_same (e ∷ es) = ap₂ (λ (a : Event) (b : List Event). a ∷ b) (event_same e) (row_same es)

  writes_same : (ws : List (List Event)) → map (moved_writes f) ws ≡ ws
  writes_same [] = refl
  writes_same (w ∷ ws) = ap₂ (λ (a : List Event) (b : List (List Event)). a ∷ b) (row_same w) (writes_same ws)

-- exchanging none
pub renames_none : (g : Graph) → Renames (λ t. t) g g
renames_none g = record { reads = λ t h. sym (reads_same (λ t. t) (λ t. refl) (get_or g.reads t [])); writes = sym (writes_same (λ t. t) (λ t. refl) g.writes) }

-- exchanging back, where the threads of the second graph come from threads of the first
pub renames_back : (π : ℕ → ℕ) (q : Permutation π) (g h : Graph) → ((t : ℕ) → t < length h.reads → q.inverse t < length g.reads) → Renames π g h → Renames q.inverse h g
renames_back π q g h within r = record { reads = rows; writes = columns }
  where
    back : ℕ → ℕ
    back = q.inverse

    rows : (t : ℕ) → t < length h.reads → get_or g.reads (back t) [] ≡ moved_reads back (get_or h.reads t [])
    rows t i =
        let row = get_or g.reads (back t) [] in
        sym (reads_same (λ u. back (π u)) q.inverse_after row) ∙ sym (reads_twice back π row)
        ∙ ap (moved_reads back) (sym (r.reads (back t) (within t i)) ∙ ap (λ (u : ℕ). get_or h.reads u []) (q.after_inverse t))

    columns : g.writes ≡ map (moved_writes back) h.writes
    columns = sym (writes_same (λ u. back (π u)) q.inverse_after g.writes) ∙ sym (writes_twice back π g.writes) ∙ ap (map (moved_writes back)) (sym r.writes)

-- one exchange after another
pub renames_both : (ρ π : ℕ → ℕ) (g h k : Graph) → ((t : ℕ) → t < length g.reads → π t < length h.reads) → Renames π g h → Renames ρ h k → Renames (λ t. ρ (π t)) g k
renames_both ρ π g h k within r s = record {
  reads = λ t i. s.reads (π t) (within t i) ∙ ap (moved_reads ρ) (r.reads t i) ∙ reads_twice ρ π (get_or g.reads t []);
  writes = s.writes ∙ ap (map (moved_writes ρ)) r.writes ∙ writes_twice ρ π g.writes;
}

-- what an exchange makes of a graph is one graph
pub renamed_once : (π : ℕ → ℕ) (q : Permutation π) (g h k : Graph) → length h.reads ≡ length k.reads → ((t : ℕ) → t < length h.reads → q.inverse t < length g.reads) → Renames π g h → Renames π g k → h ≡ k
renamed_once π q g h k e within r s =
    ap₂ graph_with
    (ext_get_or [] h.reads k.reads e (λ u i.
    let a = q.after_inverse u in
    ap (λ (z : ℕ). get_or h.reads z []) (sym a) ∙ r.reads (q.inverse u) (within u i) ∙ sym (s.reads (q.inverse u) (within u i)) ∙ ap (λ (z : ℕ). get_or k.reads z []) a))
    (r.writes ∙ sym s.writes)
