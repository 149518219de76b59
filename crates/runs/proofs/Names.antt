-- Proves `Naming` of specs/Names.antt by computation.
use native.Mathlib.Omega.{arith}
use mathlib.Core.Path.{refl}
use mathlib.Core.List.{[], ◌∷◌}
use mathlib.Core.Logic.{inl}
use Rattle.names.specs.Segment.{segment_of}
use Rattle.entries.specs.Table.{table, lookup}
use Rattle.dictionary.specs.Reads.{shown}
use Rattle.dictionary.specs.Writes.{put}
use Rattle.sdo.specs.Service.{due}
use Rattle.sdo.specs.Upload.{due_in}
use Rattle.sdo.specs.Worked.{bytes}
use Rattle.parts.specs.declared.Head.{Head}
use Rattle.promises.specs.Acts.{settled_to, act}
use Rattle.promises.specs.Calls.{receive, tick, slot, step}
use Rattle.promises.specs.Histories.{after}
use Rattle.promises.specs.Node1.{to_node1}
use Rattle.promises.specs.NamesRead.{Exchange, last, more}
use Rattle.promises.proofs.Service.{is_request_law}
use Rattle.runs.specs.Names.{asked, announced, first, segment0, meanwhile, segment1, software, Naming}

begins : Exchange 1 asked (to_node1 first) (tick ∷ slot ∷ []) (bytes 0x41 0x08 0x10 0x00 0x08 0x00 0x00 0x00)
unfolding table lookup shown put due due_in segment_of act settled_to
begins = record { served = (is_request_law _ _).0 refl; between = (tt, (tt, tt)); arrives = inl refl }

exchanged : Exchange 1 announced (to_node1 segment0) meanwhile (bytes 0x00 0x4C 0x49 0x4E 0x45 0x2D 0x41 0x58)
unfolding table lookup shown put due due_in segment_of act settled_to
exchanged =
    record {
      served = (is_request_law _ _).0 refl;
      between = (tt, ((λ e. omega arith, refl), (tt, (tt, (tt, tt)))));
      arrives = inl refl;
    }

-- the head after that
abbrev asked_again_law : Head
asked_again_law = after (step announced (receive (to_node1 segment0))) meanwhile

ended : Exchange 1 asked_again_law (to_node1 segment1) (slot ∷ []) (bytes 0x1D 0x31 0 0 0 0 0 0)
unfolding table lookup shown put due due_in segment_of act settled_to
ended = record { served = (is_request_law _ _).0 refl; between = (tt, tt); arrives = inl refl }

-- 100Ah is asked for
abbrev third_asked : Head
third_asked = after (step asked (receive (to_node1 software))) (slot ∷ [])

third_ended : Exchange 1 third_asked (to_node1 segment0) (slot ∷ []) (bytes 0x0D 0x33 0 0 0 0 0 0)
unfolding table lookup shown put due due_in segment_of act settled_to
third_ended = record { served = (is_request_law _ _).0 refl; between = (tt, tt); arrives = inl refl }

pub naming : Naming
naming =
    record {
      begins = begins;
      exchanged = exchanged;
      receives =
          more (to_node1 segment0) meanwhile (bytes 0x00 0x4C 0x49 0x4E 0x45 0x2D 0x41 0x58)
          (record { exchange = exchanged; asks = refl; toggle = refl }) refl
          (last (to_node1 segment1) (slot ∷ []) (bytes 0x1D 0x31 0 0 0 0 0 0)
          (record { exchange = ended; asks = refl; toggle = refl })
          refl);
      third =
          last (to_node1 segment0) (slot ∷ []) (bytes 0x0D 0x33 0 0 0 0 0 0)
          (record { exchange = third_ended; asks = refl; toggle = refl })
          refl;
    }
