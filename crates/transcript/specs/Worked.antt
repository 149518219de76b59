-- Examples of whole sessions, input bytes and output bytes: 01's own, at the end of chapter "Worked numbers", and others by its rules.
use Rattle.std.specs.Prelude.{◌≡◌, ◌++◌}
use Rattle.text.specs.Ascii.{ascii}
use Rattle.transcript.specs.Talk.{transcript}

pub record Worked : Type 0 where
  -- Input `?`, `?`, `S 69637`, `?`, `F 601 8 40 04 60 00 00 00 00 00`, `?`, `S -`, `?`, `?` prints the whole of:
  pub printed : transcript (ascii "?\n?\nS 69637\n?\nF 601 8 40 04 60 00 00 00 00 00\n?\nS -\n?\n?\n")
      ≡ ascii "701 1 00\n081 8 00 50 01 00 00 00 00 00\n081 8 00 00 00 00 00 00 00 00\n581 8 43 04 60 00 05 10 01 00\n081 8 00 50 01 00 00 00 00 00\n-\n"
  -- time passes: with 1017h = 3 the heartbeat joins every 3 ticks, counted from its write
  pub time :
      transcript (ascii "?\n?\nF 601 8 2B 17 10 00 03 00 00 00\n?\nT 2\n?\nT 1\n?\nT 3\n?\n?\n")
      ≡ ascii "701 1 00\n081 8 00 50 01 00 00 00 00 00\n581 8 60 17 10 00 00 00 00 00\n-\n701 1 7F\n701 1 7F\n-\n"
  -- positions in Operational: on entering, and every 100 ticks (1800-5); none waits in Stopped. A small `f` is not of its form
  pub positions :
      transcript (ascii "?\nS 69637\nf 0 2 01 00\nF 0 2 01 00\n?\n?\nT 99\n?\nT 1\nS 1048575\n?\nF 000 2 02 01\n?\n")
      ≡ ascii "701 1 00\nE 9\n181 4 05 10 01 00\n-\n-\n181 4 FF FF 0F 00\n-\n"
  -- node 1, identity 1, 2, 3, 4: entries 1018-1..4
  pub identity :
      transcript (
      ascii "?\n?\nF 601 8 40 18 10 01 00 00 00 00\n?\nF 601 8 40 18 10 02 00 00 00 00\n?\n"
      ++ ascii "F 601 8 40 18 10 03 00 00 00 00\n?\nF 601 8 40 18 10 04 00 00 00 00\n?\n"
      )
      ≡ ascii "701 1 00\n081 8 00 50 01 00 00 00 00 00\n581 8 43 18 10 01 01 00 00 00\n581 8 43 18 10 02 02 00 00 00\n"
      ++ ascii "581 8 43 18 10 03 03 00 00 00\n581 8 43 18 10 04 04 00 00 00\n"
  -- The session program's names are HEAD, 1 and 1: 1008h, 1009h and 100Ah, each by its first request and one segment.
  pub names :
      transcript (
      ascii "?\n?\nF 601 8 40 08 10 00 00 00 00 00\n?\nF 601 8 60 00 00 00 00 00 00 00\n?\n"
      ++ ascii "F 601 8 40 09 10 00 00 00 00 00\n?\nF 601 8 60 00 00 00 00 00 00 00\n?\n"
      ++ ascii "F 601 8 40 0A 10 00 00 00 00 00\n?\nF 601 8 60 00 00 00 00 00 00 00\n?\n"
      )
      ≡ ascii "701 1 00\n081 8 00 50 01 00 00 00 00 00\n581 8 41 08 10 00 04 00 00 00\n581 8 07 48 45 41 44 00 00 00\n"
      ++ ascii "581 8 41 09 10 00 01 00 00 00\n581 8 0D 31 00 00 00 00 00 00\n"
      ++ ascii "581 8 41 0A 10 00 01 00 00 00\n581 8 0D 31 00 00 00 00 00 00\n"
  -- each refusal that a line can get, and a last line that ends with the input
  pub refusals :
      transcript (ascii "F 800 9 00 00 00 00 00 00 00 00\nF 601 9 00 00 00 00 00 00 00 00\nS 4294967296\nS 1048576\n\nT 0\nT 1\n?")
      ≡ ascii "E 1\nE 2\nE 3\nE 3\nE 9\nE 9\n701 1 00\n"
  -- lines not of their form leave the head unchanged: the boot-up frame still waits
  pub malformed :
      transcript (ascii "? \n ?\n??\nt 1\nT  1\nT 1001\nT 0x1\nT A\nS\nS -1\nS 12345678901\nF 601\nF 000000601 0\nF 601 1\nF 601 1 1\nE 9\n?")
      ≡ ascii "E 9\nE 9\nE 9\nE 9\nE 9\nE 9\nE 9\nE 9\nE 9\nE 9\nE 9\nE 9\nE 9\nE 9\nE 9\nE 9\n701 1 00\n"
