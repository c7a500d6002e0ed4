-- Demand 3 (document 01, "Demand 3 written out"), in plain words.
--
-- Several parties share a converter. Each sends its own setting requests, and nobody can say in which order they come to be
-- mixed with those of the others. What a party sees must not depend on that, nor on what the others ask for:
--   1. However long the list of requests, and whatever state it starts from, each request is answered as a reference model
--      answers it that keeps nothing but a value for each field. At the end each field has the value that it has in the model;
--      every other bit, and all else in the converter, is as it was, but the output is emptied once a request was accepted.
--      A second converter that is sent the plans' bytes ends in the same state.
--   2. Mix the parties' lists in two ways. Each request gets the same number both times; both end in the same state; and each
--      field has the last value that its owner was granted, or its first. Each request gets the same plan too, but that a register
--      written whole carries the neighbours' bits as they stand just then, so that these bits may differ.
use Rattle.std.specs.Prelude.{ℕ, ◌≡◌, true, cond, None}
use mathlib.Core.List.{List, flatten}
use Rattle.ads1299.specs.declared.Converter.{Converter}
use Rattle.ads1299.specs.State.{with_registers, with_output}
use Rattle.ads1299.specs.Formed.{Formed}
use Rattle.ads1299.specs.Run.{after}
use Rattle.ads1299_fields.specs.Names.{named}
use Rattle.ads1299_fields.specs.Places.{bit_at}
use Rattle.ads1299_settings.specs.Registers.{read_at, field_of}
use Rattle.ads1299_fields.specs.Layout.{Free}
use Rattle.planner.specs.Submission.{Submission}
use Rattle.planner.specs.Refusals.{field_owner}
use Rattle.isolation.specs.Reference.{reference_numbers, reference_cells}
use Rattle.isolation.specs.Lists.{numbers, plans, end, touched}
use Rattle.isolation.specs.Merges.{Lists, Merge, Interleaving, answers_to, last_accepted, AllAlike}

-- a list of requests from a state: the numbers are the reference model's; each field ends as its cell; each bit of no field ends
-- as it began; and so does all else, but the output is empty once a request was accepted; the arrays keep their lengths; and a
-- second state, begun equal, that takes the accepted plans' bytes through the byte step ends equal
pub record FollowsReference (s : Converter) (l : List Submission) : Type 0 where
  pub reference_numbers_lem : numbers s l ≡ reference_numbers s l
  pub fields : (f n : ℕ) → named f n ≡ true → field_of (end s l).registers f n ≡ reference_cells s l f n
  pub free_bits : (r i : ℕ) → Free r i → read_at (end s l).registers (bit_at r i) ≡ read_at s.registers (bit_at r i)
  pub all_else : end s l ≡ with_output (with_registers s (end s l).registers) (cond (touched (numbers s l)) None s.output)
  pub formed : Formed (end s l)
  pub sent : after s (flatten (plans s l)) ≡ end s l

-- two merges of the same lists, from one state: every party's requests get the same numbers, which are the reference model's for
-- that party alone; the end is the same, with each field at its owner's last accepted value or its first, which is the reference
-- model's cell for the owner alone; and every party's requests get the same plans, but for other parties' bits
pub record Agree (s : Converter) (lists : Lists) (l m : List Submission) : Type 0 where
  pub same_numbers : (p : ℕ) → answers_to p l (numbers s l) ≡ answers_to p m (numbers s m)
  pub own_numbers : (p : ℕ) → answers_to p l (numbers s l) ≡ reference_numbers s (lists p)
  pub same_end : end s l ≡ end s m
  pub owners_last : (f n : ℕ) → named f n ≡ true
      → field_of (end s l).registers f n
      ≡ last_accepted s f n (lists (field_owner s.owners f n)) (answers_to (field_owner s.owners f n) l (numbers s l))
  pub owners_cell : (f n : ℕ) → named f n ≡ true
      → field_of (end s l).registers f n ≡ reference_cells s (lists (field_owner s.owners f n)) f n
  pub same_plans : (p : ℕ) → AllAlike s (lists p) (answers_to p l (numbers s l)) (answers_to p l (plans s l)) (answers_to p m (plans s m))

-- Every list from every state follows the reference model: also from a state that 13 refuses, or half through a command.
abbrev pub AllFollowReference : Type 0
AllFollowReference = (s : Converter) → Formed s → (l : List Submission) → FollowsReference s l

-- Any two merges of any lists agree, from every state.
abbrev pub MergesAgree : Type 0
MergesAgree =
    (s : Converter) → Formed s → (lists : Lists) (l m : List Submission) → Merge lists l → Merge lists m → Agree s lists l m

-- A merge is what taking heads gives, and nothing else is.
pub record MergesInterleave : Type 0 where
  pub takes_heads : (lists : Lists) (l : List Submission) → Merge lists l → Interleaving lists l
  pub is_merge : (lists : Lists) (l : List Submission) → Interleaving lists l → Merge lists l
