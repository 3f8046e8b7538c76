mod Everyone
