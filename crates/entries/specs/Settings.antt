-- The factory settings: 01, chapter "Entries".
use Rattle.std.specs.Prelude.{ℕ, ◌+◌, pos}
use Rattle.position.specs.Profile.{full_range}
use Rattle.entries.specs.declared.Pdo.{Pdo}
use Rattle.entries.specs.declared.Settings.{Settings}

abbrev pub pdo : ℕ → ℕ → ℕ → Pdo
pdo i t e = record { identifier = i; transmission = t; event = e }

abbrev pub factory : ℕ → Settings
factory n =
    record {
      communication = record {
        emergency = 0x80 + n;
        inhibit = 0;
        heartbeat = 0;
        pdo1 = pdo (0x180 + n) 254 100;
        pdo2 = pdo (0x280 + n) 1 0;
      };
      profile = record { operating = 0; range = full_range; preset = 0; step = 5000; offset = pos 0 };
    }
