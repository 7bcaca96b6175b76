-- Notes in the trail: one more behind those that are there, and fewer of them.
use Prim.Native.Nat.{ℕ, zero, suc, ◌+◌, ◌*◌, ◌<◌, ◌≤◌}
use native.Mathlib.Omega.{arith}
use native.Mathlib.Decide.{dec_lt}
use mathlib.Core.Path.{◌≡◌, refl, sym, ap, subst, ◌∙◌}
use mathlib.Core.Logic.{◌≢◌, ◌⊎◌, inl, inr, ⊎_elim}
use mathlib.Core.Bool.{Bool, cond}
use mathlib.Core.List.{List, [], ◌∷◌, ◌++◌}
use lib.ListN.{length, get_or, set, take, drop, length-append, length-set, get_or-append}
use Rattle.std.proofs.Common.{append_assoc, drop-drop}
use borrow.Rule.Slice.PartMut.{put_mid}
use lib.Seq.{sets, sets-eq, length-sets, get_or-set_same, get_or-set_other}
use borrow.Author.Tests.{lt-ltb, le-ltb}
use Rattle.file_rows.specs.Bytes.{Written}
use Rattle.graph_writer.specs.Notes.{Note, no_note, note_bytes, Noted, put_note}

get_d_last : (ns : List Note) (n d : Note) → get_or (ns ++ (n ∷ [])) (length ns) d ≡ n
get_d_last [] n d = refl
get_d_last (x ∷ ns) n d = get_d_last ns n d

-- ---- bytes stored one after the other
sets_outside : (vs l : List ℕ) (i k : ℕ) → (k < i) ⊎ (i + length vs ≤ k) → get_or (sets l i vs) k 0 ≡ get_or l k 0
sets_outside [] l i k h = refl
sets_outside (v ∷ vs) l i k h =
    let ne : k ≢ i = λ q. ⊎_elim (λ (b : k < i). omega arith) (λ (b : i + suc (length vs) ≤ k). omega arith) h in
    sets_outside vs (set l i v) (suc i) k (⊎_elim (λ (b : k < i). inl (omega arith)) (λ (b : i + suc (length vs) ≤ k). inr (omega arith)) h)
    ∙ get_or-set_other l i k v 0 ne

sets_inside : (vs l : List ℕ) (i j : ℕ) → i + length vs ≤ length l → j < length vs → get_or (sets l i vs) (i + j) 0 ≡ get_or vs j 0
sets_inside [] l i j h b = absurd (omega arith)
sets_inside (v ∷ vs) l i zero h b =
    sets_outside vs (set l i v) (suc i) (i + 0) (inl (omega arith)) ∙ ap (λ (k : ℕ). get_or (set l i v) k 0) (let z : i + 0 ≡ i = omega arith in z)
    ∙ get_or-set_same l i v 0 (omega arith)
sets_inside (v ∷ vs) l i (suc j) h b =
    ap (λ (k : ℕ). get_or (sets (set l i v) (suc i) vs) k 0) (let z : i + suc j ≡ suc i + j = omega arith in z)
    ∙ sets_inside vs (set l i v) (suc i) j (omega (arith, length-set l i v)) (omega arith)

sets_written : (l vs : List ℕ) (i n : ℕ) → length vs ≡ n → i + n ≤ length l → Written l i vs n (sets l i vs)
sets_written l vs i n e h = record {
  size = length-sets l i vs;
  inside = λ j b. sets_inside vs l i j (omega arith) (omega arith);
  outside = λ k s. sets_outside vs l i k (⊎_elim (λ (b : k < i). inl b) (λ (b : i + n ≤ k). inr (omega arith)) s);
}

-- a note is put into the trail where there is room
pub put_room : (log : List ℕ) (k : ℕ) (b : List ℕ) → k < 24 → put_note log k b ≡ sets log (k * 8) b
unfolding put_note
put_room log k b h = ap (λ (c : Bool). cond c (sets log (k * 8) b) log) (lt-ltb k 24 h)

pub put_over : (log : List ℕ) (k : ℕ) (b : List ℕ) → 24 ≤ k → put_note log k b ≡ log
unfolding put_note
put_over log k b h = ap (λ (c : Bool). cond c (sets log (k * 8) b) log) (le-ltb k 24 h)

-- where its eight bytes are copied
pub note_copied : (log b new : List ℕ) (k n : ℕ) → k < 24 → length log ≡ 192 → length b ≡ 8 → n ≡ 8 → new ≡ b → put_mid (k * 8) n log new ≡ put_note log k b
note_copied log b new k n h e l z q =
    let put = put_room log k b h ∙ sets-eq b log (k * 8) (omega arith) ∙ ap (λ (j : ℕ). take (k * 8) log ++ b ++ drop (k * 8 + j) log) l in
    rw (q, z, drop-drop 8 (k * 8) log) (sym (simp append_assoc at put))

-- eight bytes written behind the notes that are there
noted_more : (old new : List ℕ) (k : ℕ) (b : List ℕ) → k < 24 → Written old (k * 8) b 8 new → (ns : List Note) (n : Note) → Noted old ns → k ≡ length ns → b ≡ note_bytes n → Noted new (ns ++ (n ∷ []))
noted_more old new k b h w ns n noted e q = record {
  size = w.size ∙ noted.size;
  most = omega (arith, length-append ns (n ∷ []));
  bytes = λ i j hi hj. go i j hi hj (dec_lt i (length ns));
}
  where
    go : (i j : ℕ) → i < length (ns ++ (n ∷ [])) → j < 8 → Dec (i < length ns) → get_or new (i * 8 + j) 0 ≡ get_or (note_bytes (get_or (ns ++ (n ∷ [])) i no_note)) j 0
    go i j hi hj (yes l) =
        w.outside (i * 8 + j) (inl (omega arith)) ∙ noted.bytes i j l hj
        ∙ ap (λ (x : Note). get_or (note_bytes x) j 0) (sym (get_or-append ns (n ∷ []) no_note i l))
    go i j hi hj (no l) =
        let s : i ≡ length ns = omega (arith, l, length-append ns (n ∷ [])) in
        ap (λ (x : ℕ). get_or new (x * 8 + j) 0) (s ∙ sym e) ∙ w.inside j hj ∙ ap (λ (x : List ℕ). get_or x j 0) q
        ∙ ap (λ (x : Note). get_or (note_bytes x) j 0) (sym (ap (λ (x : ℕ). get_or (ns ++ (n ∷ [])) x no_note) s ∙ get_d_last ns n no_note))

-- a note written behind those that are there is one more
pub note_put : {old new b : List ℕ} {k : ℕ} → new ≡ put_note old k b → k < 24 → (ns : List Note) (n : Note) → Noted old ns → k ≡ length ns → b ≡ note_bytes n → Noted new (ns ++ (n ∷ []))
unfolding note_bytes
note_put {old} {new} {b} {k} e h ns n noted q s =
    noted_more old new k b h
    (subst (Written old (k * 8) b 8) (sym (e ∙ put_room old k b h)) (sets_written old b (k * 8) 8 (ap length s) (omega (arith, noted.size)))) ns n noted q s

-- the first of these notes
pub noted_fewer : (log : List ℕ) (ns ms : List Note) → Noted log (ns ++ ms) → Noted log ns
noted_fewer log ns ms noted = record {
  size = noted.size;
  most = omega (arith, length-append ns ms, noted.most);
  bytes = λ i j hi hj. noted.bytes i j (omega (arith, length-append ns ms)) hj ∙ ap (λ (x : Note). get_or (note_bytes x) j 0) (get_or-append ns ms no_note i hi);
}

-- before the first note there is none
pub noted_none : (log : List ℕ) → length log ≡ 192 → Noted log []
noted_none log e = record { size = e; most = omega arith; bytes = λ i j hi hj. absurd (omega arith) }
