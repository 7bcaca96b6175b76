-- `made` makes ready what a walk needs, one thing after the other.
use Rattle.std.proofs.Common.{rules, ℕ, ◌+◌, ◌/◌, ◌≤◌, ◌≡◌, sym, ap, subst, ◌∙◌, List, arith, length}
use Rattle.file_decoder.specs.Compiled.{program_of}
use Rattle.file_decoder.specs.declared.file.Compiled.{Compiled}
use Rattle.machine.proofs.HeldStart.{loaded_compiled, starting_compiled, threads_held, short_held, accesses_held}
use Rattle.search_place.specs.ClassGroups.{Lined}
use Rattle.search_place.proofs.ClassGroups.{program_groups}
use Rattle.spec_file.specs.Program.{Program, code_of}
use Rattle.spec_file.specs.declared.instruction.Instruction.{Instruction}
use Rattle.spec_file.specs.WellFormed.{all_accesses}
use Rattle.spec_schedules.specs.Order.{Schedule}
use Rattle.spec_model.specs.Laws.{Admitted}
use Rattle.machine_access.specs.Counted.{accesses_below}
use Rattle.spec_tso.specs.TotalStoreOrder.{tso}
use Rattle.spec_sc.specs.Local.{Local}
use Rattle.spec_sc.proofs.Suffix.{Suffix}
use Rattle.spec_tso.specs.State.{State, TSO, start, without_queues, thread_of}
use Rattle.spec_tso.proofs.Laws.{at_most_16}
use Rattle.spec_tso.proofs.Rests.{rest_code}
use Rattle.states_live.specs.Live.{Stands}
use Rattle.theory_states.specs.Positions.{Reached}
use Rattle.theory_tso_key.specs.Key.{key_of}
use Rattle.theory_tso_key.specs.Words.{words_of}
use Rattle.theory_tso_key.proofs.Locals.{local_seen}
use Rattle.theory_tso_key.proofs.Shape.{words_within}
use Rattle.tso_states.proofs.answering.made.Goals as goal

-- each thread of a position stands somewhere in its code
stands-met : (p : Program) (v : Schedule) (σ : State) → Reached TSO (start p) v σ → Stands p (without_queues σ)
stands-met p v σ r t =
    subst (λ (rest : List Instruction). Suffix rest (code_of p t)) (sym (ap (λ (l : Local). l.rest) (local_seen σ t)))
    (subst (λ (τ : State). Suffix (thread_of τ t).local.rest (code_of p t)) (sym r.0) (rest_code p v r.1 t))

-- at most sixteen accesses are counted
accesses-few : (program : Compiled) → Admitted tso (program_of program) → (n : ℕ) → n ≡ accesses_below program.code program.lengths program.threads → n ≤ 16
accesses-few program w n e = omega (arith, e, accesses_held program.code program.lengths program.threads (program_of program) (loaded_compiled program w.0), at_most_16 (program_of program) w.1)

pub accesses_below-accesses-requires : goal.accesses_below-accesses-requires
accesses_below-accesses-requires c =
    let program = c.args.program in
    let loaded = loaded_compiled program c.requires.0 in
    (omega (arith, threads_held program.code program.lengths program.threads (program_of program) loaded, c.requires.0.six), short_held program.code program.lengths program.threads (program_of program) loaded)

pub begun-requires : goal.begun-requires
begun-requires c =
    let program = c.args.program in
    let w = c.requires in
    (program_of program, loaded_compiled program w.0, starting_compiled program, at_most_16 (program_of program) w.1)

pub overflow_add-result : goal.overflow_add-result
overflow_add-result c =
    let few = accesses-few c.args.program (c.requires) c.accesses_below-accesses.result c.accesses_below-accesses.ensures.count in
    let most = c.most_registers-registers.ensures.0 in
    search rules

pub overflow_add-result-2 : goal.overflow_add-result-2
overflow_add-result-2 c =
    let few = accesses-few c.args.program (c.requires) c.accesses_below-accesses.result c.accesses_below-accesses.ensures.count in
    let most = c.most_registers-registers.ensures.0 in
    search rules

pub overflow_add-result-3 : goal.overflow_add-result-3
overflow_add-result-3 c =
    let few = accesses-few c.args.program (c.requires) c.accesses_below-accesses.result c.accesses_below-accesses.ensures.count in
    let most = c.most_registers-registers.ensures.0 in
    search rules

pub overflow_add-result-4 : goal.overflow_add-result-4
overflow_add-result-4 c =
    let few = accesses-few c.args.program (c.requires) c.accesses_below-accesses.result c.accesses_below-accesses.ensures.count in
    let most = c.most_registers-registers.ensures.0 in
    search rules

pub returns : goal.returns
returns c =
    let program = c.args.program in
    let p = program_of program in
    let w = c.requires in
    let loaded = loaded_compiled program w.0 in
    let known = c.known_lines-class in
    let live = c.live_masks-masks in
    let most = c.most_registers-registers in
    let count = c.accesses_below-accesses in
    let held : count.result ≡ all_accesses p.threads = count.ensures.count ∙ accesses_held program.code program.lengths program.threads p loaded in
    let lines : Lined known.result program.groups p = record { same = program_groups program ∙ sym known.ensures.1; known = known.ensures.0 } in record {
      left = c.left_sets-left.ensures;
      live = live.ensures;
      few = omega (arith, held, at_most_16 p w.1, most.ensures.0);
      wide = λ v σ r. subst (λ (n : ℕ). length (words_of (key_of p v σ)) ≤ 3 + (n + 1) / 2 + (9 + most.result) / 2) (sym held)
          (words_within p w v σ r most.result (most.ensures.1 program.code program.lengths program.threads p loaded live.ensures (without_queues σ) (stands-met p v σ r)));
      stands = c.first_spot-spot.ensures program.code program.lengths known.result program.threads program.groups p
          (c.begun.ensures known.result program.groups p loaded (starting_compiled program) (at_most_16 p w.1) lines);
    }
