-- A tally in memory is its two arrays of counts in memory, side by side, the steps at 0 and the actions at 2,048, as C has them, and back at any two lists. No
-- proof stands on it: it says where the two lie, which no contract says.
--     out      a tally that lies at (b, o) gives its two arrays, and `Back`
--     back     two arrays that lie there, with `Back`, are the tally of the two lists
use Prim.Native.Nat.{ℕ, ◌+◌}
use mathlib.Core.List.{List, [], ◌∷◌}
use seplogic.Ra.Ura.{Ura}
use base.Fraction.{full_share}
use mir.Syntax.{w32, ty_int, ty_array}
use base.Logic.{SProp, ent, sep, wand, all_e, apply∗}
use base.Fml.{Fml, fsep, ftrue}
use types.Logic.{Logic, sem}
use types.Kit.{‵, raw, ◌⊛◌, ◌$◌, ◌∵◌, !, qed, move, keep, use1, use2, split, fsplit, fjoin, done}
use denote.RattleType.{Denots}
use denote.Laws.{Lawfuls}
use denote.Memory.{part_at, part_of}
use denote.Plain.{uint_Lawful}
use denote.Builtin.{u32}
use denote.Array.{Array, Array-Lawful}
use denote.Struct.Struct.{Struct}
use denote.Struct.Declared.{shape}
use denote.Struct.Members.{Member, rows_of, parts_at}
use denote.Struct.Parts.{PartsBack, Struct-parts}
use denote.Steps.{nothing}
use Rattle.fretmere_trace.specs.declared.Tally.{Tally}
use Rattle.fretmere_trace.specs.contracts.Tally as T

abbrev counts : ℕ → Member
counts n = record { row = Array u32 n; ty = ty_array (ty_int w32) n }

abbrev members : List Member
members = counts 512 ∷ counts 192 ∷ []

abbrev arrays : List ℕ → List ℕ → ℕ → ℕ → Fml
arrays xs ys b o = fsep (part_at (Array u32 512) full_share xs b (o + 0)) (fsep (part_at (Array u32 192) full_share ys b (o + 2048)) ftrue)

module _ {M : Type 1} {𝓤 : Ura M} (𝓛 : Logic 𝓤) (b o : ℕ) where
  abbrev lawful : Lawfuls 𝓛 (rows_of members)
  lawful = (Array-Lawful 𝓛 u32 (uint_Lawful 𝓛 w32) 512, (Array-Lawful 𝓛 u32 (uint_Lawful 𝓛 w32) 192, tt))

  abbrev pub Back : SProp 𝓤
  Back = PartsBack 𝓛 full_share (T.the_type).name members b o

  cut : (h : Tally) → ent 𝓤 (sem 𝓛 (part_at T.the_row full_share h b o)) (sep 𝓤 (sem 𝓛 (parts_at full_share members 0 ((T.the_type).to h) b o)) Back)
  unfolding part_of
  cut h = Struct-parts 𝓛 full_share (T.the_type).name members lawful ((T.the_type).to h) b o

  pub out : (h : Tally) → ent 𝓤 (sem 𝓛 (part_at T.the_row full_share h b o))
      (sep 𝓤 (sem 𝓛 (part_at (Array u32 512) full_share h.steps b (o + 0))) (sep 𝓤 (sem 𝓛 (part_at (Array u32 192) full_share h.actions b (o + 2048))) Back))
  out h =
      qed 𝓛 (‵ (part_at T.the_row full_share h b o) ∷ []) ∵
      use1 𝓛 (‵ (parts_at full_share members 0 ((T.the_type).to h) b o) ⊛ raw Back) (cut h) $ split ! $ fsplit ! $ move ! (1 ∷ []) $ fsplit ! $
      -- [the actions' array; true; the steps' array; the way back]
      keep ! (2 ∷ 0 ∷ 3 ∷ []) $ done !

  shut : (h : Tally) → ent 𝓤 (sep 𝓤 Back (sem 𝓛 (parts_at full_share members 0 ((T.the_type).to h) b o))) (sem 𝓛 (part_at T.the_row full_share h b o))
  unfolding part_of
  shut h =
      qed 𝓛 (raw Back ∷ ‵ (parts_at full_share members 0 ((T.the_type).to h) b o) ∷ []) ∵
      use1 𝓛 (raw (wand 𝓤 (sem 𝓛 (parts_at full_share members 0 ((T.the_type).to h) b o)) (sem 𝓛 (part_at (Struct (shape T.the_type)) full_share ((T.the_type).to h) b o))))
      (all_e 𝓤 (λ (a : Denots (rows_of members)). wand 𝓤 (sem 𝓛 (parts_at full_share members 0 a b o)) (sem 𝓛 (part_at (Struct (shape T.the_type)) full_share a b o))) ((T.the_type).to h)) $ move ! (1 ∷ 0 ∷ []) $
      use2 𝓛 (‵ (part_at (Struct (shape T.the_type)) full_share ((T.the_type).to h) b o)) (apply∗ 𝓤 (sem 𝓛 (parts_at full_share members 0 ((T.the_type).to h) b o)) (sem 𝓛 (part_at (Struct (shape T.the_type)) full_share ((T.the_type).to h) b o))) $ done !

  pub back : (xs ys : List ℕ) → ent 𝓤 (sep 𝓤 Back (sep 𝓤 (sem 𝓛 (part_at (Array u32 512) full_share xs b (o + 0))) (sem 𝓛 (part_at (Array u32 192) full_share ys b (o + 2048))))) (sem 𝓛 (part_at T.the_row full_share (record { steps = xs; actions = ys }) b o))
  back xs ys =
      qed 𝓛 (raw Back ∷ ‵ (part_at (Array u32 512) full_share xs b (o + 0)) ∷ ‵ (part_at (Array u32 192) full_share ys b (o + 2048)) ∷ []) ∵ nothing ! $
      move ! (3 ∷ 0 ∷ []) $ fjoin ! $ move ! (2 ∷ 0 ∷ []) $ fjoin ! $ move ! (1 ∷ 0 ∷ []) $
      use2 𝓛 (‵ (part_at T.the_row full_share (record { steps = xs; actions = ys }) b o)) (shut (record { steps = xs; actions = ys })) $ done !
