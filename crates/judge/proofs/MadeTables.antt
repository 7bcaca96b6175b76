-- The table of the graph made so far: a step adds its read and its write.
use Prim.Native.Nat.{ℕ, zero, suc, ◌+◌, ◌*◌, ◌<◌}
use mathlib.Core.Path.{◌≡◌, refl, sym, ap, subst, ◌∙◌}
use mathlib.Core.Logic.{◌≢◌}
use mathlib.Core.Bool.{Bool, true, false, cond}
use mathlib.Core.Option.{Option, none, some}
use mathlib.Core.List.{List, [], ◌∷◌, ◌++◌, reverse, reverse-cons}
use native.Mathlib.Omega.{arith}
use native.Mathlib.Decide.{ℕ_discrete}
use borrow.Author.Tests.{eq-eqb, ne_eqb}
use lib.Dec.{eqb}
use lib.ListN.{length, get_or, set, length-reverse}
use lib.Seq.{get_or-set_same, get_or-set_other}
use Rattle.spec_sc.specs.Local.{takes, puts}
use Rattle.spec_sc.specs.State.{Event, Thread, Cell, State, noted, advanced, thread_of, cell_of, latest, place, step}
use Rattle.spec_sc.specs.Graph.{graph_of}
use Rattle.spec_sc.specs.Actions.{given, writes}
use Rattle.graph_writer.specs.Notes.{note, note_bytes}
use Rattle.spec_sc.proofs.Steps.{thread_own, thread_other, cell_other}
use Rattle.spec_sc.proofs.Change.{Change, kept, wrote, change, wrote_own}
use Rattle.spec_sc.proofs.Rows.{row_at, order_at}
use Rattle.spec_judge.specs.Consistent.{row_of}
use Rattle.graph_reader.specs.Held.{no_line, line_in, Entry, put, Tabled}
use Rattle.judge_next.specs.HeldWalk.{NoteOf}
use Rattle.judge.specs.MadeTable.{source_added, event_added, count_added}
use Rattle.graph_reader.proofs.Entries.{length_put, entry_put, entry_kept}

-- one write more stands behind the others
get_d_last : (ws : List Event) (e : Event) (k : ℕ) → get_or (ws ++ (e ∷ [])) k no_line ≡ cond (eqb k (length ws)) e (get_or ws k no_line)
get_d_last [] e zero = refl
get_d_last [] e (suc k) = rw (ne_eqb (suc k) 0 (λ q. omega arith))
get_d_last (w ∷ ws) e zero = rw (ne_eqb 0 (suc (length ws)) (λ q. omega arith))
get_d_last (w ∷ ws) e (suc k) = get_d_last ws e k ∙ ap (λ (b : Bool). cond b e (get_or ws k no_line)) (same (ℕ_discrete k (length ws)))
  where
    same : Dec (k ≡ length ws) → eqb k (length ws) ≡ eqb (suc k) (suc (length ws))
    same (yes q) = eq-eqb k (length ws) q ∙ sym (eq-eqb (suc k) (suc (length ws)) (ap suc q))
    same (no q) = ne_eqb k (length ws) q ∙ sym (ne_eqb (suc k) (suc (length ws)) (λ z. q (omega arith)))

last_write : (ws : List Event) (e : Event) (k : ℕ) → get_or (reverse (e ∷ ws)) k no_line ≡ cond (eqb k (length ws)) e (get_or (reverse ws) k no_line)
last_write ws e k = ap (λ (l : List Event). get_or l k no_line) (reverse-cons e ws) ∙ get_d_last (reverse ws) e k ∙ ap (λ (n : ℕ). cond (eqb k n) e (get_or (reverse ws) k no_line)) (length-reverse ws)

module _ (pairs counts : List ℕ) (σ : State) (t : ℕ) (T : Tabled pairs counts (graph_of σ)) (sp : length pairs ≡ 576) (sc : length counts ≡ 8) (there : t < length σ.threads) (six : t < 6)
    (eight : length σ.cells ≡ 8) (near : place σ t < 8) (number : (thread_of σ t).history.done < 16) (room : (l : ℕ) → get_or counts l 0 < 24) where
  abbrev d : ℕ
  d = (thread_of σ t).history.done

  abbrev l₀ : ℕ
  l₀ = place σ t

  abbrev e : Event
  e = latest (cell_of σ (place σ t)).writes

  abbrev read : List ℕ
  read = cond (takes (thread_of σ t).local) (put pairs (t * 16 + d) e.0 e.1) pairs

  read_size : length read ≡ 576
  read_size = go (takes (thread_of σ t).local)
    where
      go : (b : Bool) → length (cond b (put pairs (t * 16 + d) e.0 e.1) pairs) ≡ 576
      go true = length_put pairs (t * 16 + d) e.0 e.1 ∙ sp
      go false = sp

  -- the reads behind the step
  sources_read : (u i : ℕ) → u < 6 → i < 16 → Entry read (u * 16 + i) (line_in (row_of (graph_of (step σ t)) u) i)
  unfolding advanced noted line_in
  sources_read u i a b = subst (λ (row : List (ℕ × Event)). Entry read (u * 16 + i) (line_in row i)) (sym (row_at (step σ t) u)) (go (ℕ_discrete u t))
    where
      old : Entry pairs (u * 16 + i) (line_in (thread_of σ u).history.reads i)
      old = subst (λ (row : List (ℕ × Event)). Entry pairs (u * 16 + i) (line_in row i)) (row_at σ u) (T.sources u i a b)

      stays : (x : Bool) → u * 16 + i ≢ t * 16 + d → Entry (cond x (put pairs (t * 16 + d) e.0 e.1) pairs) (u * 16 + i) (line_in (thread_of σ u).history.reads i)
      stays true n = entry_kept pairs (t * 16 + d) e.0 e.1 (u * 16 + i) _ n old
      stays false n = old

      own : (x : Bool) → u ≡ t → Dec (i ≡ d) → Entry (cond x (put pairs (t * 16 + d) e.0 e.1) pairs) (u * 16 + i) (line_in (noted x e (thread_of σ t).history).reads i)
      own false q w = subst (λ (v : ℕ). Entry pairs (u * 16 + i) (line_in (thread_of σ v).history.reads i)) q old
      own true q (yes w) = rw (q, w, eq-eqb d d refl) (entry_put pairs (t * 16 + d) e.0 e.1 (omega arith))
      own true q (no w) = rw (ne_eqb d i (λ z. w (sym z))) (subst (λ (v : ℕ). Entry (put pairs (t * 16 + d) e.0 e.1) (u * 16 + i) (line_in (thread_of σ v).history.reads i)) q (stays true (λ z. w (omega arith))))

      go : Dec (u ≡ t) → Entry read (u * 16 + i) (line_in (thread_of (step σ t) u).history.reads i)
      go (yes q) = subst (λ (h : Thread). Entry read (u * 16 + i) (line_in h.history.reads i)) (sym (ap (thread_of (step σ t)) q ∙ thread_own σ t there)) (own (takes (thread_of σ t).local) q (ℕ_discrete i d))
      go (no q) = subst (λ (h : Thread). Entry read (u * 16 + i) (line_in h.history.reads i)) (sym (thread_other σ t u q)) (stays (takes (thread_of σ t).local) (λ z. q (omega arith)))

  -- the writes before it, in the table with its read
  orders_kept : (l k : ℕ) → l < 8 → k < 24 → Entry read (96 + (l * 24 + k)) (get_or (reverse (cell_of σ l).writes) k no_line)
  orders_kept l k a b = go (takes (thread_of σ t).local)
    where
      old : Entry pairs (96 + (l * 24 + k)) (get_or (reverse (cell_of σ l).writes) k no_line)
      old = subst (λ (ws : List Event). Entry pairs (96 + (l * 24 + k)) (get_or (reverse ws) k no_line)) (order_at σ l) (T.orders l k a b)

      go : (x : Bool) → Entry (cond x (put pairs (t * 16 + d) e.0 e.1) pairs) (96 + (l * 24 + k)) (get_or (reverse (cell_of σ l).writes) k no_line)
      go true = entry_kept pairs (t * 16 + d) e.0 e.1 (96 + (l * 24 + k)) _ (λ z. omega arith) old
      go false = old

  count_is : (l : ℕ) → l < 8 → get_or counts l 0 ≡ length (cell_of σ l).writes
  count_is l a = T.counts l a ∙ ap length (order_at σ l)

  -- nothing is written
  made_still : puts (thread_of σ t).local (cell_of σ l₀).value ≡ none → Tabled read counts (graph_of (step σ t))
  made_still q = record {
    sources = sources_read;
    orders = λ l k a b. subst (λ (ws : List Event). Entry read (96 + (l * 24 + k)) (get_or (reverse ws) k no_line)) (sym (order_at (step σ t) l ∙ ap (λ (c : Cell). c.writes) (same l))) (orders_kept l k a b);
    counts = λ l a. count_is l a ∙ sym (ap length (order_at (step σ t) l ∙ ap (λ (c : Cell). c.writes) (same l)));
  }
    where
      same : (l : ℕ) → cell_of (step σ t) l ≡ cell_of σ l
      same l = go (change σ t (omega arith) l)
        where
          go : Change σ t l → cell_of (step σ t) l ≡ cell_of σ l
          go (kept z) = z
          go (wrote z v o w y) = absurd (let k : ◌≡◌ {A = Option ℕ} none (some v) = sym q ∙ o in let n : ◌≡◌ {A = ℕ} 0 1 = cc in omega arith)

  -- the step's event is written
  made_wrote : (v : ℕ) → puts (thread_of σ t).local (cell_of σ l₀).value ≡ some v
      → Tabled (put read (96 + (l₀ * 24 + get_or counts l₀ 0)) t d) (set counts l₀ (get_or counts l₀ 0 + 1)) (graph_of (step σ t))
  made_wrote v q = record {
    sources = λ u i a b. entry_kept read (96 + (l₀ * 24 + get_or counts l₀ 0)) t d (u * 16 + i) _ (λ z. omega arith) (sources_read u i a b);
    orders = λ l k a b. subst (λ (ws : List Event). Entry (put read (96 + (l₀ * 24 + get_or counts l₀ 0)) t d) (96 + (l * 24 + k)) (get_or (reverse ws) k no_line)) (sym (order_at (step σ t) l)) (order l k a b (ℕ_discrete l l₀));
    counts = λ l a. count l a (ℕ_discrete l l₀) ∙ sym (ap length (order_at (step σ t) l));
  }
    where
      new : (l : ℕ) → l ≡ l₀ → (cell_of (step σ t) l).writes ≡ (t, d) ∷ (cell_of σ l).writes
      new l z = (wrote_own σ t l v (omega arith) z q).0

      other : (l : ℕ) → l ≢ l₀ → (cell_of (step σ t) l).writes ≡ (cell_of σ l).writes
      other l z = ap (λ (c : Cell). c.writes) (cell_other σ t l z)

      small : get_or counts l₀ 0 < 24
      small = room l₀

      many : get_or counts l₀ 0 ≡ length (cell_of σ l₀).writes
      many = count_is l₀ near

      last : (k : ℕ) → k < 24 → Dec (k ≡ length (cell_of σ l₀).writes)
          → Entry (put read (96 + (l₀ * 24 + get_or counts l₀ 0)) t d) (96 + (l₀ * 24 + k)) (cond (eqb k (length (cell_of σ l₀).writes)) (t, d) (get_or (reverse (cell_of σ l₀).writes) k no_line))
      last k b (yes w) = rw (eq-eqb k (length (cell_of σ l₀).writes) w) (subst (λ (x : ℕ). Entry (put read (96 + (l₀ * 24 + get_or counts l₀ 0)) t d) (96 + (l₀ * 24 + x)) (t, d)) (many ∙ sym w)
          (entry_put read (96 + (l₀ * 24 + get_or counts l₀ 0)) t d (let s = read_size in let r = small in omega arith)))
      last k b (no w) = rw (ne_eqb k (length (cell_of σ l₀).writes) w)
          (entry_kept read (96 + (l₀ * 24 + get_or counts l₀ 0)) t d (96 + (l₀ * 24 + k)) _ (λ z. w (let r = many in omega arith)) (orders_kept l₀ k near b))

      order : (l k : ℕ) → l < 8 → k < 24 → Dec (l ≡ l₀) → Entry (put read (96 + (l₀ * 24 + get_or counts l₀ 0)) t d) (96 + (l * 24 + k)) (get_or (reverse (cell_of (step σ t) l).writes) k no_line)
      order l k a b (yes z) = subst (λ (x : ℕ). Entry (put read (96 + (l₀ * 24 + get_or counts l₀ 0)) t d) (96 + (x * 24 + k)) (get_or (reverse (cell_of (step σ t) x).writes) k no_line)) (sym z)
          (subst (Entry (put read (96 + (l₀ * 24 + get_or counts l₀ 0)) t d) (96 + (l₀ * 24 + k))) (sym (ap (λ (ws : List Event). get_or (reverse ws) k no_line) (new l₀ refl) ∙ last_write (cell_of σ l₀).writes (t, d) k))
          (last k b (ℕ_discrete k (length (cell_of σ l₀).writes))))
      order l k a b (no z) = subst (λ (ws : List Event). Entry (put read (96 + (l₀ * 24 + get_or counts l₀ 0)) t d) (96 + (l * 24 + k)) (get_or (reverse ws) k no_line)) (sym (other l z))
          (entry_kept read (96 + (l₀ * 24 + get_or counts l₀ 0)) t d (96 + (l * 24 + k)) _ (λ y. z (let r = small in omega arith)) (orders_kept l k a b))

      count : (l : ℕ) → l < 8 → Dec (l ≡ l₀) → get_or (set counts l₀ (get_or counts l₀ 0 + 1)) l 0 ≡ length (cell_of (step σ t) l).writes
      count l a (yes z) =
          ap (λ (x : ℕ). get_or (set counts l₀ (get_or counts l₀ 0 + 1)) x 0) z ∙ get_or-set_same counts l₀ (get_or counts l₀ 0 + 1) 0 (omega arith)
          ∙ (let r = many in omega arith) ∙ sym (ap length (ap (λ (x : ℕ). (cell_of (step σ t) x).writes) z ∙ new l₀ refl))
      count l a (no z) = get_or-set_other counts l₀ l (get_or counts l₀ 0 + 1) 0 z ∙ count_is l a ∙ sym (ap length (other l z))

  -- by the step's note
  source_is : source_added pairs (note_bytes (note σ t)) ≡ read
  unfolding note_bytes note
  source_is = go (takes (thread_of σ t).local)
    where
      go : (x : Bool) → cond (eqb (cond x 1 0) 0) pairs (put pairs (t * 16 + d) e.0 e.1) ≡ cond x (put pairs (t * 16 + d) e.0 e.1) pairs
      go true = refl
      go false = refl

  pub made_step : (b : List ℕ) → NoteOf b σ t → Tabled (event_added (source_added pairs b) counts b) (count_added counts b) (graph_of (step σ t))
  unfolding note_bytes note writes given
  made_step b h = subst (λ (x : List ℕ). Tabled (event_added (source_added pairs x) counts x) (count_added counts x) (graph_of (step σ t))) (sym h)
      (subst (λ (x : List ℕ). Tabled (event_added x counts (note_bytes (note σ t))) (count_added counts (note_bytes (note σ t))) (graph_of (step σ t))) (sym source_is)
      (go (puts (thread_of σ t).local (cell_of σ l₀).value) refl))
    where
      go : (o : Option ℕ) → puts (thread_of σ t).local (cell_of σ l₀).value ≡ o → Tabled (event_added read counts (note_bytes (note σ t))) (count_added counts (note_bytes (note σ t))) (graph_of (step σ t))
      go none q = rw (q, given) (made_still q)
      go (some v) q = rw (q, given) (made_wrote v q)
